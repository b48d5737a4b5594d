-- Lines between places in grains, measured in ticks of 1/256 grain.
use Rattle.std.specs.Prelude.{ℕ, ◌+◌, ◌*◌, ◌^◌, ℤ, pos, nat_abs, ◌+ℤ◌, ◌-ℤ◌, ◌*ℤ◌}
use Rattle.exact.specs.Fraction.{quotient, round}
use Rattle.exact.specs.Roots.{root}
use Rattle.exact.specs.declared.spot.Spot.{Spot}

abbrev pub square : ℤ → ℕ
square z = nat_abs z * nat_abs z

-- the length of the line from a to b in ticks, rounded down
abbrev pub long_of : Spot → Spot → ℕ
long_of a b = root (2 ^ 16 * (square (b.x -ℤ a.x) + square (b.y -ℤ a.y)))

-- t / long of a distance d in x or in y, rounded
abbrev pub share_of_line : ℤ → ℕ → ℕ → ℤ
share_of_line d t long = round (quotient (d *ℤ pos t) (pos long))

-- the place after t ticks of a line from a to b that is `long` ticks long
abbrev pub spot_at : Spot → Spot → ℕ → ℕ → Spot
spot_at a b long t = record { x = a.x +ℤ share_of_line (b.x -ℤ a.x) t long; y = a.y +ℤ share_of_line (b.y -ℤ a.y) t long }
