use Rattle.std.proofs.Common.{◌≡◌, arith, ap, ap₂, ◌∙◌, ℤ, pos, ◌+ℤ◌, ◌*ℤ◌, FitsSigned}
use mir.Syntax.{w8, w64, w128}
use Rattle.std.proofs.lemmas.Int.{ints, to_z-of_z}
use Rattle.exact.specs.declared.spot.Spot.{Spot}
use Rattle.stick_font.specs.Labels.{share}
use Rattle.directions.specs.Directions.{swung}
use Rattle.lettering.specs.Letters.{on_grid}
use Rattle.lettering.proofs.checked.Lettering.point.Goals as goal

abbrev vector : ℤ → ℤ → Spot
vector x y = record { x = x; y = y }

pub overflow_add-share : goal.overflow_add-share
overflow_add-share c =
    let h = c.share.ensures.most in
    let k = c.slanted.ensures.most in
    let f : FitsSigned w128 c.share.result = omega (arith, ints, h) in
    let g : FitsSigned w128 c.slanted.result = omega (arith, ints, k) in
    simp to_z-of_z (omega (arith, ints, h, k))

pub returns-clause-value : goal.returns-clause-value
returns-clause-value c =
    let style = c.args.self.now.style in
    let corner = c.args.corner in
    let width_in = c.args.self.now.sound.width_in in
    let height_in = c.args.self.now.sound.height_in in
    let slant_in = c.args.self.now.sound.slant_in in
    let f1 : FitsSigned w64 style.width = omega (arith, ints, width_in) in
    let f2 : FitsSigned w64 style.height = omega (arith, ints, height_in) in
    let f3 : FitsSigned w64 style.slant = omega (arith, ints, slant_in) in
    let f4 : FitsSigned w8 c.args.j = c.ranges.j in
    let column = c.from-column.ensures in
    let row : c.from-row.result ≡ c.args.j = simp to_z-of_z at c.from-row.ensures in
    let i_in = c.ranges.i in
    let f5 : FitsSigned w64 c.from-column.result = omega (arith, ints, column) in
    let f6 : FitsSigned w64 c.from-row.result = omega (arith, ints, row) in
    let x_in = c.requires.x_in in
    let y_in = c.requires.y_in in
    let f7 : FitsSigned w128 corner.x = omega (arith, ints, x_in) in
    let f8 : FitsSigned w128 corner.y = omega (arith, ints, y_in) in
    let f9 : FitsSigned w128 c.on_grid.result = omega (arith, ints, c.on_grid.ensures.most) in
    let f10 : FitsSigned w128 c.on_grid-2.result = omega (arith, ints, c.on_grid-2.ensures.most) in
    let f12 : FitsSigned w128 c.share.result = omega (arith, ints, c.share.ensures.most) in
    let f13 : FitsSigned w128 c.slanted.result = omega (arith, ints, c.slanted.ensures.most) in
    let f14 : FitsSigned w128 c.share-2.result = omega (arith, ints, c.share-2.ensures.most) in
    let f15 : FitsSigned w128 (c.share.result +ℤ c.slanted.result) = omega (arith, ints, c.share.ensures.most, c.slanted.ensures.most) in
    let right = simp to_z-of_z at c.on_grid.ensures.value in
    let up = simp to_z-of_z at c.on_grid-2.ensures.value in
    let x = simp to_z-of_z at c.share.ensures.value in
    let z = simp to_z-of_z at c.slanted.ensures.value in
    let y = simp to_z-of_z at c.share-2.ensures.value in
    let w = simp to_z-of_z at c.swung.ensures.value in
    w
    ∙ ap (λ (o : Spot). swung style.direction o) (ap₂ vector
    (ap₂ (λ (p q : ℤ). p +ℤ q)
    (x ∙ ap (λ (p : ℤ). share p style.width 12000000) (right ∙ ap (λ (p : ℤ). on_grid corner.x p) column))
    (z ∙ ap (λ (p : ℤ). share (pos 3 *ℤ p *ℤ style.slant) style.height 18000000) row))
    (y ∙ ap (λ (p : ℤ). share p style.height 18000000) (up ∙ ap (λ (p : ℤ). on_grid corner.y p) row)))
