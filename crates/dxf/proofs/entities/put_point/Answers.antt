use Rattle.std.proofs.Common.{rules}
use Rattle.std.proofs.lemmas.Int.{to_z-of_z}
use mir.Syntax.{w128}
use mir.Val.{SFits}
use Rattle.pieces.proofs.Texts.{◌then◌}
use Rattle.dxf.proofs.entities.put_point.Goals as goal

-- each number is the one that was passed
pub returns : goal.returns
returns g c =
    let fits_x : SFits w128 c.args.point.x = search rules in
    let fits_y : SFits w128 c.args.point.y = search rules in
    let x = simp to_z-of_z at c.put_number.ensures.puts in
    let y = simp to_z-of_z at c.put_number-2.ensures.puts in
    record { puts = x then y }
