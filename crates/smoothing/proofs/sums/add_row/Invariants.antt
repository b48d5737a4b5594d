use Rattle.std.proofs.Common.{◌≡◌, ◌<◌, ◌≤◌, ◌*◌, ◌/◌, ◌-◌, ℕ, length, get_or}
use Rattle.smoothing.specs.Totals.{HasCells}
use Rattle.smoothing.specs.declared.sums.Sums.{Sums}
use Rattle.smoothing.proofs.sums.add_row.Given as goal

-- the pixels before the one with the next marked cell have their cells, the others are as they were, and the first cells of that pixel
-- are 0
abbrev pub invariant-marked : goal.invariant-marked
invariant-marked g l = record {
  size : length l.sums ≡ length l.fn.sums;
  done : (k : ℕ) (d : Sums) → k < l.marked / l.times → HasCells (g.I.Inks.inks l.inks) l.cells (l.times * k) l.times (get_or l.fn.sums k d) (get_or l.sums k d);
  others : (k : ℕ) (d : Sums) → l.marked / l.times ≤ k → get_or l.sums k d ≡ get_or l.fn.sums k d;
  blank : (k : ℕ) → l.times * (l.marked / l.times) ≤ k → k < l.marked → get_or l.cells k 0 ≡ 0;
}

abbrev pub decreases-marked : goal.decreases-marked
decreases-marked g l = l.end - l.marked
