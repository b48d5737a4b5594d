use Rattle.pieces.proofs.Texts.{◌then◌}
use Rattle.svg.proofs.sheets.put_open.Goals as goal

pub returns : goal.returns
returns g c = record { puts = c.put.ensures.puts then c.put_number.ensures.puts then c.put-2.ensures.puts }
