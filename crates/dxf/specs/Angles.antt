-- Angles, in ten-millionths of a degree, and in ten-thousandths.
use Rattle.std.specs.Prelude.{ℕ, ◌+◌, ◌-◌, ◌*◌, ◌/◌, ◌%◌, ◌==◌, nat_le, pos, int_lt, nat_abs, if◌then◌else◌, slice_index_or}
use Rattle.dxf.specs.declared.angles.TheConstants.{HALF_TURN, QUARTER_TURN, WHOLE_TURN}
use Rattle.dxf.specs.declared.angles.Vector.{Vector}
use Rattle.dxf.specs.declared.tangents.TheConstants.{ANGLES}

abbrev pub angle_of_entry : ℕ → ℕ
angle_of_entry index = slice_index_or ANGLES index 0

-- the angle whose tangent is n parts of 2^24, at most 2^24: between two entries of the table by a straight line
abbrev pub angle_of_tangent : ℕ → ℕ
angle_of_tangent n =
    angle_of_entry (n / 65536)
    + (angle_of_entry (n / 65536 + 1) - angle_of_entry (n / 65536)) * (n % 65536) / 65536

-- the angle, from 0 to a quarter turn, of a vector of which x and y are not negative; 0 if both are 0
abbrev pub angle_within : ℕ → ℕ → ℕ
angle_within x y =
    if x + y == 0 then 0 else
    if nat_le y x then angle_of_tangent (y * 16777216 / x) else QUARTER_TURN - angle_of_tangent (x * 16777216 / y)

-- the angle of any vector, by that of the sizes of its numbers
abbrev pub angle_by : Vector → ℕ → ℕ
angle_by u within =
    if int_lt u.y (pos 0) then (if int_lt u.x (pos 0) then HALF_TURN + within else WHOLE_TURN - within) else
    (if int_lt u.x (pos 0) then HALF_TURN - within else within)

-- in ten-thousandths of a degree, rounded
abbrev pub rounded : ℕ → ℕ
rounded angle = (angle + 500) / 1000

-- the direction of a vector, counterclockwise from the right, 0 to below 360 degrees, in ten-thousandths of a degree
abbrev pub direction : Vector → ℕ
direction u = rounded (angle_by u (angle_within (nat_abs u.x) (nat_abs u.y))) % 3600000
