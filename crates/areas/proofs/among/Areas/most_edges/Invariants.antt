use Rattle.std.proofs.Common.{ℕ, ◌-◌, ◌≤◌, take}
use Rattle.std.specs.List.{All}
use Rattle.areas.proofs.among.Areas.most_edges.Given as goal

-- the areas so far have at most so many edges, and one has so many
abbrev pub invariant-loop-area : goal.invariant-loop-area
invariant-loop-area l = record {
  enough : All (λ a. a.end - a.first ≤ l.most) (take l.area-index l.self.list.now);
  least : (n : ℕ) → All (λ a. a.end - a.first ≤ n) (take l.area-index l.self.list.now) → l.most ≤ n;
}
