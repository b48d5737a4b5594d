use Rattle.polygons.proofs.BufferLaws.{buffers_hold_polygons_lem}
use Rattle.polygons.proofs.laws.buffers_hold_polygons.Goals as goal

pub returns : goal.returns
returns c = buffers_hold_polygons_lem
