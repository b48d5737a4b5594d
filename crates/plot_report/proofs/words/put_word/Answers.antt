use Rattle.pieces.proofs.Texts.{◌then◌}
use Rattle.plot_report.proofs.words.put_word.Goals as goal

pub returns : goal.returns
returns g c = record { puts = c.put.ensures.puts then c.put-2.ensures.puts }
