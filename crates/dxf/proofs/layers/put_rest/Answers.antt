use Rattle.pieces.proofs.Texts.{◌then◌}
use Rattle.dxf.proofs.layers.put_rest.Goals as goal

pub returns : goal.returns
returns g c = record { puts = c.put_count.ensures.puts then c.put_count-2.ensures.puts then c.put_group.ensures.puts }
