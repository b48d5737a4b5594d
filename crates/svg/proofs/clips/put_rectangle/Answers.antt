use Rattle.std.proofs.Common.{rules}
use Rattle.std.proofs.lemmas.Int.{to_z-of_z}
use mir.Syntax.{w32}
use mir.Val.{SFits}
use Rattle.pieces.proofs.Texts.{◌then◌}
use Rattle.svg.proofs.clips.put_rectangle.Goals as goal

-- each number is the one that was passed
pub returns : goal.returns
returns g c =
    let fits_x : SFits w32 c.args.clip.x = search rules in
    let fits_y : SFits w32 c.args.clip.y = search rules in
    let fits_width : SFits w32 c.args.clip.width = search rules in
    let fits_height : SFits w32 c.args.clip.height = search rules in
    let x = simp to_z-of_z at c.put_number.ensures.puts in
    let y = simp to_z-of_z at c.put_number-2.ensures.puts in
    let width = simp to_z-of_z at c.put_number-3.ensures.puts in
    let height = simp to_z-of_z at c.put_number-4.ensures.puts in
    record { puts = c.put.ensures.puts then x then c.put-2.ensures.puts then y then c.put-3.ensures.puts then width then c.put-4.ensures.puts then height then c.put-5.ensures.puts }
