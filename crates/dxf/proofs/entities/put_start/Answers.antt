use Rattle.pieces.proofs.Texts.{◌then◌}
use Rattle.dxf.proofs.entities.put_start.Goals as goal

pub returns : goal.returns
returns g c = record { puts = c.put_group.ensures.puts then c.put_layer_groups.ensures.puts }
