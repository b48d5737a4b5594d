-- Directions (HP-GL/2 guide: DI, DR and RO): a direction is a vector of length 2^30, each coordinate rounded.
use Rattle.std.specs.Prelude.{ℕ, zero, suc, ◌+◌, ◌*◌, ◌/◌, ◌^◌, max, nat_abs, nat_lt, if◌then◌else◌}
use Rattle.std.specs.Prelude.{ℤ, pos, negsuc, neg_ℤ, ◌+ℤ◌, ◌-ℤ◌, ◌*ℤ◌}
use Rattle.exact.specs.Fraction.{quotient, round}
use Rattle.exact.specs.Roots.{root}
use Rattle.exact.specs.declared.spot.Spot.{Spot}
use Rattle.directions.specs.declared.turn.Turn.{Turn}
use Rattle.directions.specs.declared.turn.Turn.TheVariants.{None, Quarter, Half, ThreeQuarters}

-- the least h for which n / 2^h is below 2^31, or k if that is less
unfoldable pub surplus : ℕ → ℕ → ℕ
surplus zero n = 0
surplus (suc k) n = if nat_lt n (2 ^ 31) then 0 else suc (surplus k (n / 2))

-- how many binary digits the larger of two numbers has more than 31
abbrev pub surplus_of : ℤ → ℤ → ℕ
surplus_of u v = surplus 96 (max (nat_abs u) (nat_abs v))

abbrev pub shortened : ℕ → ℤ → ℤ
shortened h a = round (quotient a (pos (2 ^ h)))

-- a vector of numbers of 31 binary digits that points as (u, v) does
abbrev pub short_vector : ℤ → ℤ → Spot
short_vector u v = record { x = shortened (surplus_of u v) u; y = shortened (surplus_of u v) v }

-- the square of a vector's length
abbrev pub square_of : Spot → ℕ
square_of v = nat_abs v.x * nat_abs v.x + nat_abs v.y * nat_abs v.y

-- 2^30 * a / length, to the nearest whole number, for a that is not below 0
abbrev pub size_in : ℕ → ℕ → ℕ
size_in square a = (root (2 ^ 62 * (a * a) / square) + 1) / 2

-- n with the sign of a
abbrev pub with_sign_of : ℤ → ℕ → ℤ
with_sign_of (pos _) n = pos n
with_sign_of (negsuc _) n = neg_ℤ (pos n)

abbrev pub part_in : ℕ → ℤ → ℤ
part_in square a = with_sign_of a (size_in square (nat_abs a))

-- the direction of a vector that is not (0, 0)
abbrev pub direction_of : Spot → Spot
direction_of v = record { x = part_in (square_of v) v.x; y = part_in (square_of v) v.y }

-- the direction of (u, v), where u and v are not both 0
abbrev pub unit : ℤ → ℤ → Spot
unit u v = direction_of (short_vector u v)

-- a vector turned counterclockwise
abbrev pub vector_turned : Turn → Spot → Spot
vector_turned None v = v
vector_turned Quarter v = record { x = neg_ℤ v.y; y = v.x }
vector_turned Half v = record { x = neg_ℤ v.x; y = neg_ℤ v.y }
vector_turned ThreeQuarters v = record { x = v.y; y = neg_ℤ v.x }

-- a number of parts of 2^30, rounded
abbrev pub rounded_part : ℤ → ℤ
rounded_part a = round (quotient a (pos (2 ^ 30)))

-- an offset, turned so that what pointed to the right points in a direction
abbrev pub swung : Spot → Spot → Spot
swung d o = record {
  x = rounded_part (o.x *ℤ d.x -ℤ o.y *ℤ d.y);
  y = rounded_part (o.x *ℤ d.y +ℤ o.y *ℤ d.x);
}
