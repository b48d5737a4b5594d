use Rattle.std.proofs.Common.{arith, ap, ap₂, ◌∙◌, ℕ, ℤ, pos, ◌+ℤ◌, ◌*ℤ◌, FitsSigned}
use mir.Syntax.{w64, w128}
use Rattle.std.proofs.lemmas.Int.{ints, to_z-of_z}
use Rattle.exact.specs.declared.spot.Spot.{Spot}
use Rattle.lettering.specs.Letters.{gap, letters_beside}
use Rattle.lettering.proofs.checked.Lettering.shift.Goals as goal

abbrev vector : ℤ → ℤ → Spot
vector x y = record { x = x; y = y }

pub returns-clause-value : goal.returns-clause-value
returns-clause-value c =
    let style = c.args.self.now.style in
    let column = c.origin_column-column.ensures in
    let row = c.origin_row-row.ensures in
    let s = c.args.self.now.sound.step_x_in in
    let step_fits : FitsSigned w64 style.step_x = omega (arith, ints, s) in
    let letters_fit : FitsSigned w64 c.args.letters = c.ranges.letters in
    let b = c.beside.ensures in
    let bv = simp to_z-of_z at b.value in
    let g = c.gap.ensures in
    let h = c.gap-2.ensures in
    let f0 : FitsSigned w128 c.beside.result = omega (arith, ints, b.most) in
    let f1 : FitsSigned w128 c.gap.result = omega (arith, ints, g.most) in
    let f2 : FitsSigned w128 (c.beside.result +ℤ c.gap.result) = omega (arith, ints, b.most, g.most) in
    let f3 : FitsSigned w128 (pos c.origin_row-row.result) = omega (arith, ints, row.most) in
    let f4 : FitsSigned w128 (pos 9000000 *ℤ pos c.origin_row-row.result) = omega (arith, ints, row.most) in
    let f5 : FitsSigned w128 c.gap-2.result = omega (arith, ints, h.most) in
    let f6 : FitsSigned w128 (pos 9000000 *ℤ pos c.origin_row-row.result +ℤ c.gap-2.result) = omega (arith, ints, row.most, h.most) in
    rw c.from.ensures (simp to_z-of_z (ap₂ vector
    (ap₂ (λ (p q : ℤ). p +ℤ q) (bv ∙ ap (λ (n : ℕ). letters_beside n style.step_x c.args.letters) column.value) (g.value ∙ ap (λ (n : ℕ). gap style 6 n) column.value))
    (ap₂ (λ (p q : ℤ). p +ℤ q) (ap (λ (n : ℕ). pos 9000000 *ℤ pos n) row.value) (h.value ∙ ap (λ (n : ℕ). gap style 9 n) row.value))))
