use Rattle.pieces.proofs.Texts.{◌then◌}
use Rattle.dxf.proofs.document.put_foot.Goals as goal

pub returns : goal.returns
returns g c = record { puts = c.put_group.ensures.puts then c.put_group-2.ensures.puts }
