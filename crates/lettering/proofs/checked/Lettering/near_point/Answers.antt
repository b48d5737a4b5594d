use Rattle.std.proofs.Common.{◌≡◌, arith, ap, ap₂, ◌∙◌, ℤ, pos, ◌+ℤ◌, ◌*ℤ◌, sym, FitsSigned}
use mir.Syntax.{w8, w64, w128}
use Rattle.std.proofs.lemmas.Int.{ints, to_z-of_z}
use Rattle.exact.specs.declared.spot.Spot.{Spot}
use Rattle.stick_font.specs.Labels.{share}
use Rattle.directions.specs.Directions.{swung, vector_turned}
use Rattle.directions.proofs.Axes.{axes_are_exact_lem}
use Rattle.lettering.specs.Letters.{on_grid}
use Rattle.lettering.proofs.Sizes.{upright_is}
use Rattle.lettering.proofs.checked.Lettering.near_point.Goals as goal

abbrev vector : ℤ → ℤ → Spot
vector x y = record { x = x; y = y }

-- with no slant a point is not moved
unmoved : (x u slant size : ℤ) → slant ≡ pos 0 → x ≡ x +ℤ share (u *ℤ slant) size 18000000
unmoved x u slant size e =
    let z : share (u *ℤ slant) size 18000000 ≡ pos 0 = ap (λ (t : ℤ). share (u *ℤ t) size 18000000) e ∙ upright_is u size in
    omega (arith, ints)

pub returns-clause-value : goal.returns-clause-value
returns-clause-value c =
    let style = c.args.self.now.style in
    let corner = c.args.corner in
    let near = c.requires in
    let width_in = near.width_in in
    let height_in = near.height_in in
    let x_in = near.corner_in.x_in in
    let y_in = near.corner_in.y_in in
    let f1 : FitsSigned w64 style.width = omega (arith, ints, width_in) in
    let f2 : FitsSigned w64 style.height = omega (arith, ints, height_in) in
    let f4 : FitsSigned w8 c.args.j = c.ranges.j in
    let f7 : FitsSigned w64 corner.x = omega (arith, ints, x_in) in
    let f8 : FitsSigned w64 corner.y = omega (arith, ints, y_in) in
    let g7 : FitsSigned w128 corner.x = omega (arith, ints, x_in) in
    let g8 : FitsSigned w128 corner.y = omega (arith, ints, y_in) in
    let column = c.from.ensures in
    let row : c.from-2.result ≡ c.args.j = simp to_z-of_z at c.from-2.ensures in
    let i_in = c.ranges.i in
    let f5 : FitsSigned w64 c.from.result = omega (arith, ints, column) in
    let f6 : FitsSigned w64 c.from-2.result = omega (arith, ints, row) in
    let f9 : FitsSigned w64 c.near_on_grid-right.result = omega (arith, ints, c.near_on_grid-right.ensures.most) in
    let f10 : FitsSigned w64 c.near_on_grid-up.result = omega (arith, ints, c.near_on_grid-up.ensures.most) in
    let m1 = c.short_share.ensures.most in
    let m2 = c.short_share-2.ensures.most in
    let f11 : FitsSigned w64 c.short_share.result = omega (arith, ints, m1) in
    let f12 : FitsSigned w64 c.short_share-2.result = omega (arith, ints, m2) in
    let g11 : FitsSigned w128 c.short_share.result = omega (arith, ints, m1) in
    let g12 : FitsSigned w128 c.short_share-2.result = omega (arith, ints, m2) in
    let right = simp to_z-of_z at c.near_on_grid-right.ensures.value in
    let up = simp to_z-of_z at c.near_on_grid-up.ensures.value in
    let x = simp to_z-of_z at c.short_share.ensures.value in
    let y = simp to_z-of_z at c.short_share-2.ensures.value in
    let w = simp to_z-of_z at c.turned.ensures.value in
    let x_is = x ∙ ap (λ (p : ℤ). share p style.width 12000000) (right ∙ ap (λ (p : ℤ). on_grid corner.x p) column)
    ∙ unmoved (share (on_grid corner.x (pos c.args.i)) style.width 12000000) (pos 3 *ℤ c.args.j) style.slant style.height near.upright in
    let y_is = y ∙ ap (λ (p : ℤ). share p style.height 18000000) (up ∙ ap (λ (p : ℤ). on_grid corner.y p) row) in
    let point : Spot =
    vector (share (on_grid corner.x (pos c.args.i)) style.width 12000000 +ℤ share (pos 3 *ℤ c.args.j *ℤ style.slant) style.height 18000000)
    (share (on_grid corner.y c.args.j) style.height 18000000) in
    w
    ∙ ap (λ (o : Spot). vector_turned c.args.turn o) (ap₂ vector x_is y_is)
    ∙ sym (axes_are_exact_lem.swings c.args.turn point)
    ∙ sym (ap (λ (d : Spot). swung d point) near.along)
