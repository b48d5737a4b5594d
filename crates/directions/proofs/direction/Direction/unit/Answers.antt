use Rattle.std.proofs.Common.{rules, ◌≡◌, ℤ, pos, to_z, nat_abs, ◌<◌, ◌∙◌, ap, sym, arith, FitsSigned}
use mir.Syntax.{w32, w128}
use Rattle.std.proofs.lemmas.Int.{ints, to_z-of_z}
use Rattle.exact.specs.declared.spot.Spot.{Spot}
use Rattle.directions.specs.Directions.{unit}
use Rattle.directions.proofs.Axes.{axes_are_exact_lem}
use Rattle.directions.proofs.direction.Direction.unit.Goals as goal

abbrev vector : ℤ → ℤ → Spot
vector x y = record { x = x; y = y }

pub returns-then-v-eq0 : goal.returns-then-v-eq0
returns-then-v-eq0 c =
    let fv : FitsSigned w128 c.args.v = search rules in
    let z : c.args.v ≡ pos 0 = sym (to_z-of_z w128 c.args.v fv) ∙ ap (to_z w128) c.if-v-eq0.true in
    let s = c.with_sign_of.ensures.same in
    let p : 0 < nat_abs c.args.u = omega (arith, ints, c.requires.not_both) in
    let fu : FitsSigned w128 c.args.u = search rules in
    let value = simp to_z-of_z at c.with_sign_of.ensures.value in
    let f : FitsSigned w32 c.with_sign_of.result = omega (arith, ints) in
    ap (λ (x : ℤ). vector x (pos 0)) (to_z-of_z w32 c.with_sign_of.result f ∙ value)
    ∙ sym (axes_are_exact_lem.x c.args.u p)
    ∙ ap (unit c.args.u) (sym z)

pub returns-then-u-eq0 : goal.returns-then-u-eq0
returns-then-u-eq0 c =
    let fu : FitsSigned w128 c.args.u = search rules in
    let z : c.args.u ≡ pos 0 = sym (to_z-of_z w128 c.args.u fu) ∙ ap (to_z w128) c.if-u-eq0.true in
    let s = c.with_sign_of-then-u-eq0.ensures.same in
    let p : 0 < nat_abs c.args.v = omega (arith, ints, c.requires.not_both) in
    let fv : FitsSigned w128 c.args.v = search rules in
    let value = simp to_z-of_z at c.with_sign_of-then-u-eq0.ensures.value in
    let f : FitsSigned w32 c.with_sign_of-then-u-eq0.result = omega (arith, ints) in
    ap (λ (y : ℤ). vector (pos 0) y)
    (to_z-of_z w32 c.with_sign_of-then-u-eq0.result f ∙ value)
    ∙ sym (axes_are_exact_lem.y c.args.v p)
    ∙ ap (λ (u : ℤ). unit u c.args.v) (sym z)
