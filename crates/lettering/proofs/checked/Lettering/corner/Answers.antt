use Rattle.std.proofs.Common.{◌≡◌, ◌*◌, ◌<◌, ◌≤◌, ◌^◌, nat_abs, arith, ap, ap₂, ◌∙◌, ℤ, pos, ◌-ℤ◌, ◌*ℤ◌, FitsSigned}
use mir.Syntax.{w64, w128}
use Rattle.std.proofs.lemmas.Int.{ints, to_z-of_z, to_z_pos}
use Rattle.exact.specs.declared.spot.Spot.{Spot}
use Rattle.lettering.specs.Bounds.{most_step}
use Rattle.lettering.specs.Styles.{steps_to}
use Rattle.lettering.proofs.Sizes.{IsGiven, given}
use Rattle.lettering.proofs.checked.Lettering.corner.Goals as goal
use Rattle.lettering.proofs.checked.Lettering.corner.Goals.{After-stepped, After-stepped-2}

abbrev vector : ℤ → ℤ → Spot
vector x y = record { x = x; y = y }

x_given : (c : After-stepped) → IsGiven c.stepped.result 18 c.args.self.now.style.step_x c.steps-steps.result.x
x_given c =
    let s = c.args.self.now.sound.step_x_in in
    let i = c.requires.column_in in
    let j = c.requires.line_in in
    let f : FitsSigned w64 c.args.cell.column = omega (arith, ints, i) in
    let m : nat_abs c.steps-steps.result.x ≤ 2 ^ 32 = omega (arith, ints, c.steps-steps.ensures.x_in) in
    given c.stepped.result 18 c.args.self.now.style.step_x c.steps-steps.result.x (omega arith) (omega (arith, s)) m c.stepped.ensures.value c.stepped.ensures.most

y_given : (c : After-stepped-2) → IsGiven c.stepped-2.result 36 c.line_step.result c.steps-steps.result.y
y_given c =
    let s = c.line_step.ensures.most in
    let i = c.requires.column_in in
    let j = c.requires.line_in in
    let f : FitsSigned w64 c.args.cell.column = omega (arith, ints, i) in
    let m : nat_abs c.steps-steps.result.y ≤ 2 ^ 32 = omega (arith, ints, c.steps-steps.ensures.y_in) in
    given c.stepped-2.result 36 c.line_step.result c.steps-steps.result.y (omega arith) s m c.stepped-2.ensures.value c.stepped-2.ensures.most

pub overflow_sub-result : goal.overflow_sub-result
overflow_sub-result c =
    let k = x_given (goal.at.overflow_sub-result c).After-stepped in
    let m = k.most in
    let n = c.shift-shift.ensures.within.x_in in
    let f : FitsSigned w128 c.stepped.result = omega (arith, ints, m) in
    let g : FitsSigned w128 c.shift-shift.result.x = omega (arith, ints, n) in
    simp to_z-of_z (omega (arith, ints, m, n))

pub overflow_sub-result-2 : goal.overflow_sub-result-2
overflow_sub-result-2 c =
    let k = y_given (goal.at.overflow_sub-result-2 c).After-stepped-2 in
    let m = k.most in
    let n = c.shift-shift.ensures.within.y_in in
    let f : FitsSigned w128 c.stepped-2.result = omega (arith, ints, m) in
    let g : FitsSigned w128 c.shift-shift.result.y = omega (arith, ints, n) in
    simp to_z-of_z (omega (arith, ints, m, n))

-- the four numbers, and their differences
record AreNumbers (c : After-stepped-2) : Type 0 where
  x_fits : FitsSigned w128 c.stepped.result
  y_fits : FitsSigned w128 c.stepped-2.result
  shift_x_fits : FitsSigned w128 c.shift-shift.result.x
  shift_y_fits : FitsSigned w128 c.shift-shift.result.y
  dx_fits : FitsSigned w128 (c.stepped.result -ℤ c.shift-shift.result.x)
  dy_fits : FitsSigned w128 (c.stepped-2.result -ℤ c.shift-shift.result.y)
  dx_in : nat_abs (c.stepped.result -ℤ c.shift-shift.result.x) ≤ 2 ^ 65
  dy_in : nat_abs (c.stepped-2.result -ℤ c.shift-shift.result.y) ≤ 2 ^ 65

numbers : (c : After-stepped-2) → nat_abs c.stepped.result ≤ 36 * most_step * 2 ^ 32 → nat_abs c.stepped-2.result ≤ 36 * most_step * 2 ^ 32 → AreNumbers c
numbers c m n =
    let p = c.shift-shift.ensures.within.x_in in
    let q = c.shift-shift.ensures.within.y_in in
    record {
      x_fits = omega (arith, ints, m);
      y_fits = omega (arith, ints, n);
      shift_x_fits = omega (arith, ints, p);
      shift_y_fits = omega (arith, ints, q);
      dx_fits = omega (arith, ints, m, p);
      dy_fits = omega (arith, ints, n, q);
      dx_in = omega (arith, ints, m, p);
      dy_in = omega (arith, ints, n, q);
    }

pub returns-clause-value : goal.returns-clause-value
returns-clause-value c =
    let d = (goal.at.returns-clause-value c).After-stepped-2 in
    let style = c.args.self.now.style in
    let cell = c.args.cell in
    let k = x_given (goal.at.returns-clause-value c).After-stepped in
    let l = y_given d in
    let n = numbers d k.most l.most in
    let f1 = n.x_fits in
    let f2 = n.y_fits in
    let f3 = n.shift_x_fits in
    let f4 = n.shift_y_fits in
    let f5 = n.dx_fits in
    let f6 = n.dy_fits in
    let column_in = c.requires.column_in in
    let letters_in = c.requires.letters_in in
    let column_fits : FitsSigned w64 cell.column = omega (arith, ints, column_in) in
    let letters_fit : FitsSigned w64 c.args.letters = omega (arith, ints, letters_in) in
    let line_in : cell.line < 2 ^ 63 = omega (arith, c.requires.line_in) in
    let steps : c.steps-steps.result ≡ steps_to style cell.column (pos cell.line) =
    c.steps-steps.ensures.value ∙ ap₂ (λ (p q : ℤ). steps_to style p q) (to_z-of_z w64 cell.column column_fits) (to_z_pos w64 cell.line line_in) in
    let shifted = simp to_z-of_z at c.shift-shift.ensures.value in
    simp to_z-of_z (ap₂ vector
    (ap₂ (λ (p q : ℤ). p -ℤ q) (k.value ∙ ap (λ (v : Spot). pos 18 *ℤ style.step_x *ℤ v.x) steps) (ap (λ (v : Spot). v.x) shifted))
    (ap₂ (λ (p q : ℤ). p -ℤ q) (l.value ∙ ap₂ (λ (k : ℤ) (v : Spot). pos 36 *ℤ k *ℤ v.y) c.line_step.ensures.value steps) (ap (λ (v : Spot). v.y) shifted)))

pub returns-clause-within : goal.returns-clause-within
returns-clause-within c =
    let d = (goal.at.returns-clause-within c).After-stepped-2 in
    let k = x_given (goal.at.returns-clause-within c).After-stepped in
    let l = y_given d in
    let n = numbers d k.most l.most in
    let f1 = n.x_fits in
    let f2 = n.y_fits in
    let f3 = n.shift_x_fits in
    let f4 = n.shift_y_fits in
    let f5 = n.dx_fits in
    let f6 = n.dy_fits in
    let dx_in = n.dx_in in
    let dy_in = n.dy_in in
    simp to_z-of_z (record { x_in = dx_in; y_in = dy_in })
