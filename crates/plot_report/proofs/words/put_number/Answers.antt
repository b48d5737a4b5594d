use Rattle.pieces.proofs.Texts.{◌then◌}
use Rattle.plot_report.proofs.words.put_number.Goals as goal

pub returns : goal.returns
returns g c = record { puts = c.put.ensures.puts then c.put_number.ensures.puts }
