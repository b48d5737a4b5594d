use Rattle.std.proofs.Common.{◌≡◌, ◌<◌, ◌≤◌, ℕ, [], length, get_or}
use Rattle.smoothing.specs.Totals.{AreWhite, means}
use Rattle.smoothing.specs.declared.sums.Sums.{Sums}
use Rattle.smoothing.proofs.sums.take_means.Given as goal

-- the pixels so far are means, and their sums are white ones again
abbrev pub invariant-loop-column : goal.invariant-loop-column
invariant-loop-column l = record {
  size : length l.sums ≡ length l.fn.sums;
  wide : length l.pixels ≡ length l.fn.pixels;
  means : (k : ℕ) (d : Sums) → k < l.column → get_or l.pixels k [] ≡ means l.times (get_or l.fn.sums k d);
  white : (k : ℕ) (d : Sums) → k < l.column → AreWhite l.times (get_or l.sums k d);
  others : (k : ℕ) (d : Sums) → l.column ≤ k → get_or l.sums k d ≡ get_or l.fn.sums k d;
}
