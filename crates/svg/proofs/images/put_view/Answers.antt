use Rattle.std.proofs.Common.{rules}
use Rattle.std.proofs.lemmas.Int.{to_z-of_z}
use mir.Syntax.{w32}
use mir.Val.{SFits}
use Rattle.pieces.proofs.Texts.{◌then◌}
use Rattle.svg.proofs.images.put_view.Goals as goal

-- each number is the one that was passed
pub returns : goal.returns
returns g c =
    let fits_x : SFits w32 c.args.view.x = search rules in
    let fits_y : SFits w32 c.args.view.y = search rules in
    let fits_width : SFits w32 c.args.view.width = search rules in
    let fits_height : SFits w32 c.args.view.height = search rules in
    let x = simp to_z-of_z at c.put_number.ensures.puts in
    let y = simp to_z-of_z at c.put_number-2.ensures.puts in
    let width = simp to_z-of_z at c.put_number-3.ensures.puts in
    let height = simp to_z-of_z at c.put_number-4.ensures.puts in
    let left = simp to_z-of_z at c.put_number-5.ensures.puts in
    let top = simp to_z-of_z at c.put_number-6.ensures.puts in
    let wide = simp to_z-of_z at c.put_number-7.ensures.puts in
    let high = simp to_z-of_z at c.put_number-8.ensures.puts in
    record {
      puts = c.put.ensures.puts then x then c.put-2.ensures.puts then y then c.put-3.ensures.puts then width then c.put-4.ensures.puts then height
          then c.put-5.ensures.puts then left then c.put-6.ensures.puts then top then c.put-7.ensures.puts then wide then c.put-8.ensures.puts then high then c.put-9.ensures.puts;
    }
