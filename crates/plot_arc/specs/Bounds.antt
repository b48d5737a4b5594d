-- What keeps the arithmetic in 128 bits.
use Rattle.std.specs.Prelude.{◌≤◌, ◌^◌, nat_abs}
use Rattle.exact.specs.declared.spot.Spot.{Spot}

-- within 2^36 of 0
pub record IsShort (s : Spot) : Type 0 where
  pub x_in : nat_abs s.x ≤ 2 ^ 36
  pub y_in : nat_abs s.y ≤ 2 ^ 36

-- within 10^24 of 0
pub record IsNear (s : Spot) : Type 0 where
  pub x_in : nat_abs s.x ≤ 10 ^ 24
  pub y_in : nat_abs s.y ≤ 10 ^ 24
