use Rattle.pieces.proofs.Texts.{◌then◌}
use Rattle.dxf.proofs.entities.put_polyline_end.Goals as goal

pub returns : goal.returns
returns g c = record { puts = c.put_last_vertex.ensures.puts then c.put_group.ensures.puts }
