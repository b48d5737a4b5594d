-- Where coordinates lie, as the HP-GL/2 and HP RTL Reference Guide says it under SC (Scale) and IP (Input P1 and P2).
-- A coordinate is an exact number of millionths of the current unit; X(u) is an exact number of plotter units.
use Rattle.std.specs.Prelude.{ℕ, zero, suc, ◌^◌, if◌then◌else◌, int_le, ℤ, pos, negsuc, nat_abs, ◌-ℤ◌, ◌*ℤ◌}
use Rattle.exact.specs.Fraction.{Fraction, whole, quotient, plus, times, round}
use Rattle.plot_frame.specs.declared.pair.AxisName.{AxisName}
use Rattle.plot_frame.specs.declared.pair.AxisName.TheVariants.{X, Y}
use Rattle.plot_frame.specs.declared.pair.Pair.{Pair}
use Rattle.plot_frame.specs.declared.scaling.Ends.{Ends}
use Rattle.plot_frame.specs.declared.scaling.Range.{Range}
use Rattle.plot_frame.specs.declared.scaling.FittedRange.{FittedRange}
use Rattle.plot_frame.specs.declared.scaling.Factor.{Factor}
use Rattle.plot_frame.specs.declared.scaling.Scaling.{Scaling}
use Rattle.plot_frame.specs.declared.scaling.Scaling.TheVariants.{Off, Anisotropic, Isotropic, PointFactor}
use Rattle.plot_frame.specs.declared.sides.Side.{Side}

-- the value for an axis
abbrev pub on_axis : {A : Type 0} → AxisName → Pair A → A
on_axis X p = p.x
on_axis Y p = p.y

-- f less g
abbrev pub minus : Fraction → Fraction → Fraction
minus f g = plus f (times (whole (negsuc 0)) g)

-- f over g, where g is not 0
abbrev pub divided : Fraction → Fraction → Fraction
divided f g = quotient (f.over *ℤ pos g.under) (pos f.under *ℤ g.over)

-- the smaller of the two
abbrev pub lesser : Fraction → Fraction → Fraction
lesser f g = if int_le (f.over *ℤ pos g.under) (g.over *ℤ pos f.under) then f else g

-- 1, 0 or -1
abbrev pub sign : ℤ → ℤ
sign (pos zero) = pos 0
sign (pos (suc n)) = pos 1
sign (negsuc n) = negsuc 0

-- on an axis: P1, P2 less P1, the least coordinate, and the greatest less the least
abbrev pub side_of : Ends → Range → Side
side_of e r = record { start = e.first; distance = e.last -ℤ e.first; least = r.least; extent = r.most -ℤ r.least }

-- scaling off: coordinates are plotter units
abbrev pub unscaled : Fraction → Fraction
unscaled u = times u (quotient (pos 1) (pos (10 ^ 6)))

-- type 0, anisotropic: P1 and P2 have the ends of the range
abbrev pub stretched : Side → Fraction → Fraction
stretched s u = plus (whole s.start) (times (minus u (whole s.least)) (quotient s.distance s.extent))

-- how many plotter units a millionth takes on a side, and the smaller of two such sizes
abbrev pub ratio : Side → Fraction
ratio s = quotient (pos (nat_abs s.distance)) (pos (nat_abs s.extent))

abbrev pub unit_size : Pair Ends → Pair FittedRange → Fraction
unit_size p f = lesser (ratio (side_of p.x f.x.range)) (ratio (side_of p.y f.y.range))

-- type 1, isotropic: a millionth takes size units, and the share percent / 10^8 of what is left over lies before the
-- range
abbrev pub evenly_scaled : Fraction → Side → ℤ → Fraction → Fraction
evenly_scaled size s percent u =
    let left_over = minus (whole (pos (nat_abs s.distance))) (times size (whole (pos (nat_abs s.extent)))) in
    let before = times (quotient percent (pos (10 ^ 8))) left_over in
    let on = times (whole (sign s.extent)) (times size (minus u (whole s.least))) in
    plus (whole s.start) (times (whole (sign s.distance)) (plus before on))

-- type 2, point factor: P1 has the least coordinate, and a unit takes factor (in millionths) units
abbrev pub by_factor : Ends → Factor → Fraction → Fraction
by_factor e f u = plus (whole e.first) (times (minus u (whole f.least)) (quotient f.factor (pos (10 ^ 12))))

-- X(u) on an axis
abbrev pub axis_units : AxisName → Pair Ends → Scaling → Fraction → Fraction
axis_units n p Off u = unscaled u
axis_units n p (Anisotropic r) u = stretched (side_of (on_axis n p) (on_axis n r)) u
axis_units n p (Isotropic f) u =
    evenly_scaled (unit_size p f) (side_of (on_axis n p) (on_axis n f).range) (on_axis n f).share u
axis_units n p (PointFactor f) u = by_factor (on_axis n p) (on_axis n f) u

-- the place in grains of a plotter coordinate, on a page whose edge lies margin units before 0
abbrev pub grains : Fraction → ℕ → ℤ
grains x margin = round (times (whole (pos 16)) (plus x (whole (pos margin))))

-- the plotter coordinate of a place
abbrev pub units : ℤ → ℕ → Fraction
units q margin = minus (quotient q (pos 16)) (whole (pos margin))

-- the u with X(u) = x: X is a line, so u = (x - X(0)) / (X(1) - X(0))
abbrev pub solved : (Fraction → Fraction) → Fraction → Fraction
solved at x = divided (minus x (at (whole (pos 0)))) (minus (at (whole (pos 1))) (at (whole (pos 0))))

-- the coordinate of a place: the solution, rounded once
abbrev pub coordinate : (Fraction → Fraction) → ℤ → ℕ → ℤ
coordinate at q margin = round (solved at (units q margin))
