use Rattle.std.proofs.Common.{◌≡◌, take, length}
use Rattle.std.specs.List.{All}
use Rattle.polygons.specs.Climbs.{climbs_of, IsClimb}
use Rattle.polygons.proofs.sweep.climbs.Given as goal

abbrev pub invariant-loop-number : goal.invariant-loop-number
invariant-loop-number l = record {
  value : l.climbs.items ≡ climbs_of l.ruling.lines 0 (take l.number l.edges);
  sound : All (IsClimb (length l.edges)) l.climbs.items;
}
