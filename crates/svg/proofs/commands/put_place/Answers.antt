use Rattle.std.proofs.Common.{rules}
use Rattle.std.proofs.lemmas.Int.{to_z-of_z}
use mir.Syntax.{w32}
use mir.Val.{SFits}
use Rattle.pieces.proofs.Texts.{◌then◌}
use Rattle.svg.proofs.commands.put_place.Goals as goal

-- each number is the one that was passed
pub returns : goal.returns
returns g c =
    let fits_x : SFits w32 c.args.place.x = search rules in
    let fits_y : SFits w32 c.args.place.y = search rules in
    let x = simp to_z-of_z at c.put_number.ensures.puts in
    let y = simp to_z-of_z at c.put_number-2.ensures.puts in
    record { puts = x then c.put.ensures.puts then y }
