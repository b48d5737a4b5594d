use Rattle.std.proofs.Common.{◌≡◌, ◌<◌, ◌≤◌, ℕ, List, length, get_or, map}
use Rattle.rows.proofs.sample_row.put_greys.Given as goal

-- the samples before this one are shades, and those past the pixels are as they were
abbrev pub invariant-loop-k : goal.invariant-loop-k
invariant-loop-k l = record {
  size : length l.samples ≡ length l.fn.samples;
  written : (j : ℕ) → j < l.k → get_or l.samples j 0 ≡ get_or (map (λ (pixel : List ℕ). get_or pixel 0 0) l.pixels) j 0;
  others : (j : ℕ) → length l.pixels ≤ j → get_or l.samples j 0 ≡ get_or l.fn.samples j 0;
}
