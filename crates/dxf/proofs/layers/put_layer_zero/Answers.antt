use Rattle.std.proofs.Common.{append_assoc}
use Rattle.pieces.proofs.Texts.{◌then◌, puts_as}
use Rattle.dxf.proofs.layers.put_layer_zero.Goals as goal

pub returns : goal.returns
returns g c = record { puts = puts_as (c.put_group.ensures.puts then c.put_group-2.ensures.puts then c.put_rest.ensures.puts) (simp append_assoc) }
