use Rattle.pieces.proofs.Texts.{◌then◌}
use Rattle.plot_report.proofs.lines.put_words.Goals as goal

pub returns : goal.returns
returns g c = record { puts = c.put_word.ensures.puts then c.put_word-2.ensures.puts }
