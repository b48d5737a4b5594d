use Rattle.pieces.proofs.Texts.{◌then◌}
use Rattle.dxf.proofs.groups.put_group.Goals as goal

pub returns : goal.returns
returns g c = record { puts = c.put_number.ensures.puts then c.put.ensures.puts then c.put-2.ensures.puts then c.put-3.ensures.puts }
