use Rattle.std.proofs.Common.{rules}
use Rattle.std.proofs.lemmas.Int.{to_z-of_z}
use mir.Syntax.{w32}
use mir.Val.{SFits}
use Rattle.pieces.proofs.Texts.{◌then◌}
use Rattle.plot_report.proofs.lines.put_box.Goals as goal

-- each place is the number that was passed
pub returns : goal.returns
returns g c =
    let fits_x0 : SFits w32 c.args.of.least_x = search rules in
    let fits_y0 : SFits w32 c.args.of.least_y = search rules in
    let fits_x1 : SFits w32 c.args.of.greatest_x = search rules in
    let fits_y1 : SFits w32 c.args.of.greatest_y = search rules in
    let x0 = simp to_z-of_z at c.put_number.ensures.puts in
    let y0 = simp to_z-of_z at c.put_number-2.ensures.puts in
    let x1 = simp to_z-of_z at c.put_number-3.ensures.puts in
    let y1 = simp to_z-of_z at c.put_number-4.ensures.puts in
    record { puts = c.put_word.ensures.puts then (x0 then (y0 then (x1 then y1))) }
