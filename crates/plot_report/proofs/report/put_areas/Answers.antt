use Rattle.std.proofs.Common.{sym}
use Rattle.pieces.proofs.Texts.{none_put, puts_as}
use Rattle.plot_report.proofs.PenLines.{line_of_areas, line_of_no_areas}
use Rattle.plot_report.proofs.report.put_areas.Goals as goal

pub returns-then-areas-gt0 : goal.returns-then-areas-gt0
returns-then-areas-gt0 g c = record { puts = puts_as c.put_areas_line.ensures.puts (sym (line_of_areas c.args.areas c.if-areas-gt0.true)) }

pub returns-else-areas-gt0 : goal.returns-else-areas-gt0
returns-else-areas-gt0 g c = record { puts = puts_as (none_put c.requires.sound) (sym (line_of_no_areas c.args.areas c.if-areas-gt0.false)) }
