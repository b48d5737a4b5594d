-- What keeps the arithmetic in its types.
use Rattle.std.specs.Prelude.{◌≤◌, ◌^◌, nat_abs}
use Rattle.exact.specs.declared.spot.Spot.{Spot}

-- within 2^27 grains of 0
pub record IsPlace (s : Spot) : Type 0 where
  pub x_in : nat_abs s.x ≤ 2 ^ 27
  pub y_in : nat_abs s.y ≤ 2 ^ 27
