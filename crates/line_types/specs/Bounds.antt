-- The ranges of places, of lengths and of patterns, which keep the arithmetic in 128 bits.
use Rattle.std.specs.Prelude.{ℕ, ◌<◌, ◌≤◌, ◌^◌, List, length, sum, nat_abs}
use Rattle.exact.specs.declared.spot.Spot.{Spot}

-- within 2^27 grains of 0
pub record IsPlace (s : Spot) : Type 0 where
  pub x_in : nat_abs s.x ≤ 2 ^ 27
  pub y_in : nat_abs s.y ≤ 2 ^ 27

-- 1 to 20 gaps that are not all 0, and whose sum is below 2^48
pub record IsPattern (gaps : List ℕ) : Type 0 where
  pub at_most : length gaps ≤ 20
  pub above : 0 < sum gaps
  pub below : sum gaps < 2 ^ 48
