use Rattle.pieces.proofs.Texts.{◌then◌}
use Rattle.dxf.proofs.entities.put_vertex.Goals as goal

pub returns : goal.returns
returns g c = record { puts = c.put_group.ensures.puts then c.put_layer.ensures.puts then c.put_point.ensures.puts }
