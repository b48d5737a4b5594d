use Rattle.pieces.proofs.Texts.{◌then◌}
use Rattle.pdf.proofs.title.put_some.Goals as goal

pub returns : goal.returns
returns g c = record { puts = c.put.ensures.puts then c.put_characters.ensures.puts then c.put-2.ensures.puts }
