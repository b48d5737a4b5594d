use Rattle.std.proofs.Common.{◌≡◌, ℕ, ◌+◌, ◌<◌, ◌≤◌, drop, get_or, length}
use Rattle.areas.specs.Shapes.{edge_count}
use Rattle.areas.proofs.Apart.{nothing}
use Rattle.areas.proofs.among.Areas.edge_count.Given as goal

-- the edges so far, and those of the areas that are left
abbrev pub invariant-loop-area : goal.invariant-loop-area
invariant-loop-area l = record {
  same : l.count + edge_count (drop l.area-index l.self.list.now) ≡ edge_count l.self.list.now;
  few : (j : ℕ) → l.area-index ≤ j → j < length l.self.list.now → l.count ≤ (get_or l.self.list.now j nothing).first;
}
