use Rattle.std.proofs.Common.{ap, rules}
use Rattle.std.proofs.lemmas.Int.{to_z-of_z}
use mir.Syntax.{w32}
use mir.Val.{SFits}
use Rattle.plot_page.specs.Segments.{Segment}
use Rattle.pdf.specs.Operators.{place_text}
use Rattle.pdf.proofs.Contained.{fills_as, ◌next◌}
use Rattle.pdf.proofs.paths.put_stroke.Goals as goal

-- each number is the one that was passed
pub returns : goal.returns
returns g c =
    let fits_x : SFits w32 c.stroke.inside.ax = search rules in
    let fits_y : SFits w32 c.stroke.inside.ay = search rules in
    let place = simp to_z-of_z at c.put_place.ensures.fills in
    record { fills = fills_as place (ap (λ (s : Segment). place_text s.ax s.ay) c.stroke.view_is) next c.put.ensures.fills next c.put_line.ensures.fills }
