use Rattle.std.proofs.Common.{rules}
use Rattle.std.proofs.lemmas.Int.{to_z-of_z}
use mir.Syntax.{w32}
use mir.Val.{SFits}
use Rattle.pdf.proofs.Contained.{◌next◌}
use Rattle.pdf.proofs.paths.put_rectangle.Goals as goal

-- each number is the one that was passed
pub returns : goal.returns
returns g c =
    let fits_x : SFits w32 c.args.x = search rules in
    let fits_y : SFits w32 c.args.y = search rules in
    let fits_width : SFits w32 c.args.width = search rules in
    let fits_height : SFits w32 c.args.height = search rules in
    let corner = simp to_z-of_z at c.put_place.ensures.fills in
    let size = simp to_z-of_z at c.put_place-2.ensures.fills in
    record { fills = corner next c.put.ensures.fills next size next c.put-2.ensures.fills }
