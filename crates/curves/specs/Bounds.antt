-- What keeps the arithmetic in 128 bits.
use Rattle.std.specs.Prelude.{◌+◌, ◌<◌, ◌^◌, nat_abs}
use Rattle.exact.specs.declared.spot.Spot.{Spot}
use Rattle.directions.specs.Bounds.{IsWithin}
use Rattle.curves.specs.declared.circle.Circle.{Circle}

-- a vector that is not (0, 0)
abbrev pub IsNotZero : Spot → Type 0
IsNotZero v = 0 < nat_abs v.x + nat_abs v.y

-- the start is a place, and the first direction points somewhere
pub record IsCircle (circle : Circle) : Type 0 where
  pub start_in : IsWithin (2 ^ 27) circle.start
  pub first_above : IsNotZero circle.first
