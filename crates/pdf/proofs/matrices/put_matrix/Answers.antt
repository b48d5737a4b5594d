use Rattle.std.proofs.Common.{ap, rules}
use Rattle.std.proofs.lemmas.Int.{to_z-of_z}
use mir.Syntax.{w32}
use mir.Val.{SFits}
use Rattle.labels.specs.Labels.{LineShape}
use Rattle.pdf.specs.Operators.{place_text}
use Rattle.pdf.proofs.Contained.{fills_as, ◌next◌}
use Rattle.pdf.proofs.matrices.put_matrix.Goals as goal

-- each number is the one that was passed
pub returns : goal.returns
returns g c =
    let fits_x : SFits w32 c.line.inside.start.x = search rules in
    let fits_y : SFits w32 c.line.inside.start.y = search rules in
    let place = fills_as (simp to_z-of_z at c.put_place.ensures.fills) (ap (λ (l : LineShape). place_text l.start.x l.start.y) c.line.view_is) in
    record { fills = c.put_numbers.ensures.fills next c.put.ensures.fills next place next c.put-2.ensures.fills }
