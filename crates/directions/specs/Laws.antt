-- What holds of directions.
use Rattle.std.specs.Prelude.{◌≡◌, ℕ, ◌+◌, ◌-◌, ◌*◌, ◌^◌, ◌<◌, ◌≤◌, nat_abs, ℤ, pos, ◌*ℤ◌, ◌≤ℤ◌}
use Rattle.exact.specs.declared.spot.Spot.{Spot}
use Rattle.directions.specs.Directions.{unit, swung, vector_turned, with_sign_of}
use Rattle.directions.specs.declared.turn.Turn.{Turn}

-- r is the size of 2^30 * a / length to the nearest whole number, by the square of the length: r - 1/2 at the least,
-- and less than r + 1/2
pub record IsNearest (square a r : ℕ) : Type 0 where
  pub least : (2 * r - 1) * (2 * r - 1) * square ≤ 2 ^ 62 * (a * a)
  pub most : 2 ^ 62 * (a * a) < (2 * r + 1) * (2 * r + 1) * square

-- a coordinate of the direction of a vector: its size, and its sign
pub record IsPart (square : ℕ) (a r : ℤ) : Type 0 where
  pub size : IsNearest square (nat_abs a) (nat_abs r)
  pub sign : pos 0 ≤ℤ (a *ℤ r)

pub record IsUnit (u v : ℤ) (d : Spot) : Type 0 where
  pub x : IsPart (nat_abs u * nat_abs u + nat_abs v * nat_abs v) u d.x
  pub y : IsPart (nat_abs u * nat_abs u + nat_abs v * nat_abs v) v d.y

abbrev pub UnitsAreNearest : Type 0
UnitsAreNearest =
    (u v : ℤ) → nat_abs u < 2 ^ 31 → nat_abs v < 2 ^ 31 → 0 < nat_abs u + nat_abs v → IsUnit u v (unit u v)

abbrev pub right : Spot
right = record { x = pos (2 ^ 30); y = pos 0 }

-- along an axis a direction is exact, and an offset that follows it is turned
pub record AxesAreExact : Type 0 where
  pub x : (u : ℤ) → 0 < nat_abs u → unit u (pos 0) ≡ record { x = with_sign_of u (2 ^ 30); y = pos 0 }
  pub y : (v : ℤ) → 0 < nat_abs v → unit (pos 0) v ≡ record { x = pos 0; y = with_sign_of v (2 ^ 30) }
  pub swings : (t : Turn) (o : Spot) → swung (vector_turned t right) o ≡ vector_turned t o
