use Rattle.std.proofs.Common.{◌≡◌, ◌<◌, ◌≤◌, ℕ, length, get_or, map}
use Rattle.rows.specs.Known.{AreKnown}
use Rattle.rows.specs.PixelRows.{number_in}
use Rattle.rows.proofs.sample_row.put_places.Given as goal

-- the samples before this one are numbers, what is known is right, and those past the pixels are as they were
abbrev pub invariant-loop-k : goal.invariant-loop-k
invariant-loop-k l = record {
  size : length l.samples ≡ length l.fn.samples;
  written : (j : ℕ) → j < l.k → get_or l.samples j 0 ≡ get_or (map (number_in l.palette) l.pixels) j 0;
  known : AreKnown l.palette l.known;
  others : (j : ℕ) → length l.pixels ≤ j → get_or l.samples j 0 ≡ get_or l.fn.samples j 0;
}
