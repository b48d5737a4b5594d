-- A frame's axis as a line: 16 * (X(u) + margin) is (slope * u + offset) / under.
use Rattle.std.specs.Prelude.{ℕ, suc, ◌^◌, ℤ, pos, negsuc, neg_ℤ, ◌+ℤ◌, ◌-ℤ◌, ◌*ℤ◌}
use Rattle.exact.specs.Fraction.{Fraction, quotient, round}
use Rattle.plot_frame.specs.declared.axis.Axis.{Axis}
use Rattle.plot_frame.specs.declared.pair.AxisName.{AxisName}
use Rattle.plot_frame.specs.declared.pair.Pair.{Pair}
use Rattle.plot_frame.specs.declared.scaling.Ends.{Ends}
use Rattle.plot_frame.specs.declared.scaling.Factor.{Factor}
use Rattle.plot_frame.specs.declared.scaling.Scaling.{Scaling}
use Rattle.plot_frame.specs.declared.scaling.Scaling.TheVariants.{Off, Anisotropic, Isotropic, PointFactor}
use Rattle.plot_frame.specs.declared.sides.Side.{Side}
use Rattle.plot_frame.specs.declared.sides.Ratio.{Ratio}
use Rattle.plot_frame.specs.Frame.{on_axis, side_of, unit_size, sign}

-- the place of a coordinate, and the coordinate of a place
abbrev pub place : Axis → ℤ → ℤ
place axis u = round (quotient (axis.slope *ℤ u +ℤ axis.offset) axis.under)

abbrev pub back : Axis → ℤ → ℤ
back axis q = round (quotient (q *ℤ axis.under -ℤ axis.offset) axis.slope)

abbrev pub line_of : ℤ → ℤ → ℤ → ℤ → Axis
line_of origin distance least under = record {
  slope = pos 16 *ℤ distance;
  offset = pos 16 *ℤ (origin *ℤ under -ℤ least *ℤ distance);
  under = under;
}

-- a negative extent gives its sign to the distance
abbrev pub line_by : ℤ → ℤ → ℤ → ℤ → Axis
line_by origin distance least (pos n) = line_of origin distance least (pos n)
line_by origin distance least (negsuc n) = line_of origin (neg_ℤ distance) least (pos (suc n))

abbrev pub line_of_stretched : Side → ℕ → Axis
line_of_stretched s margin = line_by (s.start +ℤ pos margin) s.distance s.least s.extent

abbrev pub unscaled_line : ℕ → Axis
unscaled_line margin = line_of (pos margin) (pos 1) (pos 0) (pos (10 ^ 6))

-- a fraction that is held in two numbers
abbrev pub seen : Ratio → Fraction
seen r = record { over = pos r.over; under = r.under }

-- the size of a unit, times its denominator, with the sign of the way that coordinates grow
abbrev pub unit_along : Fraction → Side → ℤ
unit_along size s = sign s.distance *ℤ (sign s.extent *ℤ size.over)

abbrev pub even_offset : ℤ → ℤ → ℤ → Side → ℤ → ℤ
even_offset unit under origin s percent =
    let share = percent *ℤ (s.distance *ℤ under -ℤ unit *ℤ s.extent) in
    pos 16 *ℤ ((origin *ℤ (pos (10 ^ 8) *ℤ under) +ℤ share) -ℤ pos (10 ^ 8) *ℤ (unit *ℤ s.least))

abbrev pub line_of_even : Fraction → Side → ℤ → ℕ → Axis
line_of_even size s percent margin = record {
  slope = pos 16 *ℤ (pos (10 ^ 8) *ℤ unit_along size s);
  offset = even_offset (unit_along size s) (pos size.under) (s.start +ℤ pos margin) s percent;
  under = pos (10 ^ 8) *ℤ pos size.under;
}

-- with a factor in millionths a distance of factor units has 10^12 millionths
abbrev pub factor_side : Ends → Factor → Side
factor_side e f = record { start = e.first; distance = f.factor; least = f.least; extent = pos (10 ^ 12) }

-- the line of an axis
abbrev pub axis_line : AxisName → Pair Ends → Scaling → ℕ → Axis
axis_line n p Off margin = unscaled_line margin
axis_line n p (Anisotropic r) margin = line_of_stretched (side_of (on_axis n p) (on_axis n r)) margin
axis_line n p (Isotropic f) margin =
    line_of_even (unit_size p f) (side_of (on_axis n p) (on_axis n f).range) (on_axis n f).share margin
axis_line n p (PointFactor f) margin = line_of_stretched (factor_side (on_axis n p) (on_axis n f)) margin
