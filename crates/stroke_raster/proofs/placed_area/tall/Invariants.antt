use Rattle.std.proofs.Common.{◌≡◌, ◌≤◌, ◌^◌, nat_abs, take}
use Rattle.std.specs.Int.{int_max, int_min}
use Rattle.stroke_raster.specs.Slots.{highest, lowest}
use Rattle.stroke_raster.proofs.placed_area.tall.Given as goal

-- the lowest and the highest end of the edges so far
abbrev pub invariant-loop-edge : goal.invariant-loop-edge
invariant-loop-edge l = record {
  low : l.low ≡ lowest (int_min l.stroke.ay l.stroke.by) (take l.edge-index l.edges);
  high : l.high ≡ highest (int_max l.stroke.ay l.stroke.by) (take l.edge-index l.edges);
  low_near : nat_abs l.low ≤ 134217712;
  high_near : nat_abs l.high ≤ 134217712;
}
