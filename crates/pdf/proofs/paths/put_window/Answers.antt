use Rattle.std.proofs.Common.{◌≡◌, ◌++◌, ℤ, ap₂, codes, rules}
use Rattle.std.specs.Prelude.{◌-ℤ◌}
use Rattle.std.proofs.lemmas.Int.{to_z-of_z}
use mir.Syntax.{w32}
use mir.Val.{SFits}
use Rattle.pdf.specs.Operators.{place_text}
use Rattle.pdf.proofs.Contained.{fills_as, ◌next◌}
use Rattle.pdf.proofs.paths.put_window.Goals as goal

-- each number is the one that was passed
pub returns : goal.returns
returns g c =
    let w = c.args.window in
    let fits_x0 : SFits w32 w.x0 = search rules in
    let fits_y0 : SFits w32 w.y0 = search rules in
    let fits_x1 : SFits w32 w.x1 = search rules in
    let fits_y1 : SFits w32 w.y1 = search rules in
    let fits_width : SFits w32 c.distance-width.result = search rules in
    let fits_height : SFits w32 c.distance-height.result = search rules in
    let rectangle = simp to_z-of_z at c.put_rectangle.ensures.fills in
    let width : c.distance-width.result ≡ w.x1 -ℤ w.x0 = simp to_z-of_z at c.distance-width.ensures.value in
    let height : c.distance-height.result ≡ w.y1 -ℤ w.y0 = simp to_z-of_z at c.distance-height.ensures.value in
    let size = ap₂ (λ (x y : ℤ). place_text w.x0 w.y0 ++ codes " " ++ place_text x y ++ codes " re\n") width height in
    record { fills = fills_as rectangle size next c.put.ensures.fills }
