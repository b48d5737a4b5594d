use Rattle.pieces.proofs.Texts.{◌then◌}
use Rattle.dxf.proofs.head.put_table.Goals as goal

pub returns : goal.returns
returns g c = record { puts = c.put_group.ensures.puts then c.put_group-2.ensures.puts then c.put_count.ensures.puts }
