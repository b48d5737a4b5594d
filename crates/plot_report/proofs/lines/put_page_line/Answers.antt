use Rattle.std.proofs.Common.{rules}
use Rattle.std.proofs.lemmas.Int.{to_z-of_z}
use mir.Syntax.{w64}
use mir.Val.{SFits}
use Rattle.pieces.proofs.Texts.{◌then◌}
use Rattle.plot_report.proofs.lines.put_page_line.Goals as goal

-- each number is the one that was passed
pub returns : goal.returns
returns g c =
    let fits_left : SFits w64 c.args.page.left = search rules in
    let fits_below : SFits w64 c.args.page.below = search rules in
    let left = simp to_z-of_z at c.put_number-3.ensures.puts in
    let below = simp to_z-of_z at c.put_number-4.ensures.puts in
    let words = c.put.ensures.puts then (c.put_number.ensures.puts then (c.put_number-2.ensures.puts then (left then below))) in
    record { puts = words then c.put-2.ensures.puts }
