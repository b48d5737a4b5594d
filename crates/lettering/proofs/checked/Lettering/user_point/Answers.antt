use Rattle.std.proofs.Common.{◌≡◌, arith, ap, ap₂, ◌∙◌, ℤ, pos, ◌+ℤ◌, ◌*ℤ◌, FitsSigned}
use mir.Syntax.{w64, w128}
use Rattle.std.proofs.lemmas.Int.{ints, to_z-of_z}
use Rattle.exact.specs.declared.spot.Spot.{Spot}
use Rattle.stick_font.specs.Labels.{share}
use Rattle.directions.specs.Directions.{swung}
use Rattle.lettering.specs.Columns.{first_cell}
use Rattle.lettering.specs.Letters.{letter_corner}
use Rattle.lettering.proofs.checked.Lettering.user_point.Goals as goal

abbrev vector : ℤ → ℤ → Spot
vector x y = record { x = x; y = y }

pub returns-clause-value : goal.returns-clause-value
returns-clause-value c =
    let style = c.args.self.now.style in
    let point = c.args.point in
    let width_in = c.args.self.now.sound.width_in in
    let height_in = c.args.self.now.sound.height_in in
    let slant_in = c.args.self.now.sound.slant_in in
    let f1 : FitsSigned w64 style.width = omega (arith, ints, width_in) in
    let f2 : FitsSigned w64 style.height = omega (arith, ints, height_in) in
    let f3 : FitsSigned w64 style.slant = omega (arith, ints, slant_in) in
    let x_in = c.requires.x_in in
    let y_in = c.requires.y_in in
    let f4 : FitsSigned w128 point.x = omega (arith, ints, x_in) in
    let f5 : FitsSigned w128 point.y = omega (arith, ints, y_in) in
    let at = c.corner-corner.result in
    let at_in = c.corner-corner.ensures.within in
    let f6 : FitsSigned w128 at.x = omega (arith, ints, at_in.x_in) in
    let f7 : FitsSigned w128 at.y = omega (arith, ints, at_in.y_in) in
    let f8 : FitsSigned w128 c.rightward.result = omega (arith, ints, c.rightward.ensures.most) in
    let f9 : FitsSigned w128 c.leaning.result = omega (arith, ints, c.leaning.ensures.most) in
    let f10 : FitsSigned w128 c.upward.result = omega (arith, ints, c.upward.ensures.most) in
    let f11 : FitsSigned w128 c.share.result = omega (arith, ints, c.share.ensures.most) in
    let f12 : FitsSigned w128 c.share-2.result = omega (arith, ints, c.share-2.ensures.most) in
    let f13 : FitsSigned w128 c.share-3.result = omega (arith, ints, c.share-3.ensures.most) in
    let f14 : FitsSigned w128 (c.share.result +ℤ c.share-2.result) = omega (arith, ints, c.share.ensures.most, c.share-2.ensures.most) in
    let corner : at ≡ letter_corner style first_cell (pos 1) = c.corner-corner.ensures.value in
    let right = simp to_z-of_z at c.rightward.ensures.value in
    let lean = simp to_z-of_z at c.leaning.ensures.value in
    let up = simp to_z-of_z at c.upward.ensures.value in
    let x = simp to_z-of_z at c.share.ensures.value in
    let z = simp to_z-of_z at c.share-2.ensures.value in
    let y = simp to_z-of_z at c.share-3.ensures.value in
    let w = simp to_z-of_z at c.swung.ensures.value in
    w
    ∙ ap (λ (o : Spot). swung style.direction o) (ap₂ vector
    (ap₂ (λ (p q : ℤ). p +ℤ q)
    (x ∙ ap (λ (p : ℤ). share p style.width 12000000) (right ∙ ap (λ (q : Spot). q.x +ℤ pos 3 *ℤ point.x) corner))
    (z ∙ ap (λ (p : ℤ). share p style.height 8000000000000) lean))
    (y ∙ ap (λ (p : ℤ). share p style.height 72000000) (up ∙ ap (λ (q : Spot). pos 4 *ℤ q.y +ℤ pos 9 *ℤ point.y) corner)))
