-- Ranges of vectors.
use Rattle.std.specs.Prelude.{ℕ, ◌≤◌, nat_abs}
use Rattle.exact.specs.declared.spot.Spot.{Spot}

-- both coordinates are at most n either side of 0
pub record IsWithin (n : ℕ) (v : Spot) : Type 0 where
  pub x_in : nat_abs v.x ≤ n
  pub y_in : nat_abs v.y ≤ n
