use Rattle.std.proofs.Common.{◌≡◌, ◌<◌, ◌≤◌, ◌*◌, ℕ, length, get_or}
use Rattle.std.specs.List.{flat_map}
use Rattle.png.specs.Headers.{three}
use Rattle.rows.proofs.sample_row.put_channels.Given as goal

-- the samples before this one are channels, and those past the pixels are as they were
abbrev pub invariant-loop-k : goal.invariant-loop-k
invariant-loop-k l = record {
  size : length l.samples ≡ length l.fn.samples;
  written : (j : ℕ) → j < l.k → get_or l.samples j 0 ≡ get_or (flat_map three l.pixels) j 0;
  others : (j : ℕ) → 3 * length l.pixels ≤ j → get_or l.samples j 0 ≡ get_or l.fn.samples j 0;
}
