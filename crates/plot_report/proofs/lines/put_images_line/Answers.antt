use Rattle.pieces.proofs.Texts.{◌then◌}
use Rattle.plot_report.proofs.lines.put_images_line.Goals as goal

pub returns : goal.returns
returns g c = record { puts = c.put.ensures.puts then c.put_number.ensures.puts then c.put-2.ensures.puts }
