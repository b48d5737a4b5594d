use Rattle.pieces.proofs.Texts.{◌then◌}
use Rattle.svg.proofs.titles.put_title.Goals as goal

pub returns : goal.returns
returns g c = record { puts = c.put.ensures.puts then c.put_lines.ensures.puts then c.put-2.ensures.puts }
