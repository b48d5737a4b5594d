use Rattle.std.proofs.Common.{◌≡◌, ◌≤◌, drop, filter, length, map, take}
use Rattle.areas.specs.Sweeps.{below, reaches_down}
use Rattle.areas.proofs.sweep.descend_all.Given as goal

-- those of the edges so far that go on are in the row below, and the others are as they were
abbrev pub invariant-loop-at : goal.invariant-loop-at
invariant-loop-at l = record {
  so_far : take l.kept l.near ≡ map below (filter (reaches_down l.dots.resolution l.height) (take l.at l.fn.near));
  rest : drop l.at l.near ≡ drop l.at l.fn.near;
  few : l.kept ≤ l.at;
  same : length l.near ≡ length l.fn.near;
}
