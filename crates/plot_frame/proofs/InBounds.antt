-- The lines of every kind of scaling are within the bounds.
use Rattle.std.proofs.Common.{◌≢◌, ◌≤◌, ◌^◌, ℕ, zero, suc, arith, ℤ, pos, negsuc, ◌+ℤ◌, ◌-ℤ◌, ◌*ℤ◌, ◌<ℤ◌, nat_abs}
use Rattle.std.proofs.lemmas.Int.{ints}
use Rattle.exact.proofs.Fit.{product_within, difference_within}
use Rattle.exact.specs.Fraction.{Fraction}
use Rattle.plot_frame.specs.declared.sides.Side.{Side}
use Rattle.plot_frame.specs.declared.pair.AxisName.{AxisName}
use Rattle.plot_frame.specs.declared.pair.Pair.{Pair}
use Rattle.plot_frame.specs.declared.scaling.Ends.{Ends}
use Rattle.plot_frame.specs.declared.scaling.Scaling.{Scaling}
use Rattle.plot_frame.specs.declared.scaling.Scaling.TheVariants.{Off, Anisotropic, Isotropic, PointFactor}
use Rattle.plot_frame.specs.Bounds.{IsLine, IsSide, IsEnds, IsRange, IsFittedRange, IsFactor, IsPoints, IsScaling}
use Rattle.plot_frame.specs.Frame.{on_axis, sign, unit_size, side_of}
use Rattle.plot_frame.specs.Line.{axis_line, unit_along, even_offset, line_of_even, line_of_stretched, unscaled_line, factor_side}
use Rattle.plot_frame.proofs.Turned.{stretched_in}
use Rattle.plot_frame.proofs.Values.{above_0, product_not_0}
use Rattle.plot_frame.proofs.OfScaling.{sign_not_0}
use Rattle.plot_frame.proofs.SideBounds.{both_on_axis, side_in, factor_side_in, IsUnit, unit_in}

sign_in : (d : ℤ) → nat_abs (sign d) ≤ 1
sign_in (pos zero) = omega arith
sign_in (pos (suc n)) = omega arith
sign_in (negsuc n) = omega arith

offset_in : (x y z : ℤ) → nat_abs x ≤ 2 ^ 97 → nat_abs y ≤ 2 ^ 97 → nat_abs z ≤ 2 ^ 68 → nat_abs (pos 16 *ℤ ((x +ℤ y) -ℤ pos (10 ^ 8) *ℤ z)) ≤ 2 ^ 104
offset_in x y z h i j = omega (arith, ints)

line_in : (unit under origin : ℤ) (s : Side) (percent : ℤ) → nat_abs unit ≤ 2 ^ 25 → unit ≢ pos 0 → nat_abs under ≤ 2 ^ 44 → pos 0 <ℤ under → IsSide s → nat_abs s.distance ≤ 2 ^ 25 → nat_abs percent ≤ 10 ^ 8 → nat_abs origin ≤ 2 ^ 26
    → IsLine (record { slope = pos 16 *ℤ (pos (10 ^ 8) *ℤ unit); offset = even_offset unit under origin s percent; under = pos (10 ^ 8) *ℤ under })
line_in unit under origin s percent b n u v l d p o =
    let k : nat_abs (pos (10 ^ 8) *ℤ under) ≤ 2 ^ 71 = omega (arith, ints) in
    let b1 = product_within origin (pos (10 ^ 8) *ℤ under) _ _ o k in
    let b2 = product_within s.distance under _ _ d u in
    let b3 = product_within unit s.extent _ _ b l.extent_in in
    let b4 = difference_within (s.distance *ℤ under) (unit *ℤ s.extent) _ _ b2 b3 in
    let b5 = product_within percent (s.distance *ℤ under -ℤ unit *ℤ s.extent) _ _ p b4 in
    let b6 = product_within unit s.least _ _ b l.least_in in
    record {
      slope_in = omega (arith, ints);
      slope_not_0 = λ z. n (omega (arith, ints));
      offset_in = offset_in (origin *ℤ (pos (10 ^ 8) *ℤ under)) (percent *ℤ (s.distance *ℤ under -ℤ unit *ℤ s.extent)) (unit *ℤ s.least) (omega arith) (omega arith) (omega arith);
      under_in = omega (arith, ints);
      under_above = omega (arith, ints);
    }

pub even_in : (size : Fraction) (s : Side) (percent : ℤ) (margin : ℕ) → IsUnit size
    → IsSide s → nat_abs s.distance ≤ 2 ^ 25 → nat_abs percent ≤ 10 ^ 8 → margin ≤ 524288 → IsLine (line_of_even size s percent margin)
even_in size s percent margin h l d p m =
    let unit = unit_along size s in
    let b1 = product_within (sign s.extent) size.over _ _ (sign_in s.extent) h.over_in in
    let b2 = product_within (sign s.distance) (sign s.extent *ℤ size.over) _ _ (sign_in s.distance) b1 in
    let n = product_not_0 (sign s.distance) (sign s.extent *ℤ size.over) (sign_not_0 s.distance l.distance_not_0) (product_not_0 (sign s.extent) size.over (sign_not_0 s.extent l.extent_not_0) h.over_not_0) in
    let a = l.start_in in
    let u = h.under_above in
    line_in unit (pos size.under) (s.start +ℤ pos margin) s percent (omega arith) n h.under_in (omega (arith, ints)) l d p (omega (arith, ints))

pub side_line_in : (s : Side) (margin : ℕ) → IsSide s → margin ≤ 524288 → IsLine (line_of_stretched s margin)
side_line_in s margin h m =
    let a = h.start_in in
    stretched_in (s.start +ℤ pos margin) s.distance s.least s.extent (omega (arith, ints)) h.distance_in h.distance_not_0 h.least_in h.extent_in h.extent_not_0

unscaled_line_in : (margin : ℕ) → margin ≤ 524288 → IsLine (unscaled_line margin)
unscaled_line_in margin m = stretched_in (pos margin) (pos 1) (pos 0) (pos (10 ^ 6)) (omega (arith, ints)) (omega arith) (above_0 1 (omega arith)) (omega arith) (omega arith) (above_0 (10 ^ 6) (omega arith))

pub line_of_axis_in : (n : AxisName) (p : Pair Ends) (s : Scaling) (margin : ℕ) → IsPoints p → IsScaling s → margin ≤ 524288 → IsLine (axis_line n p s margin)
line_of_axis_in n p Off margin h k m = unscaled_line_in margin m
line_of_axis_in n p (Anisotropic r) margin h k m =
    side_line_in (side_of (on_axis n p) (on_axis n r)) margin (side_in (on_axis n p) (on_axis n r) (both_on_axis IsEnds n p h) (both_on_axis IsRange n r k)) m
line_of_axis_in n p (Isotropic f) margin h k m =
    let e = both_on_axis IsEnds n p h in
    let g = both_on_axis IsFittedRange n f k in
    even_in (unit_size p f) (side_of (on_axis n p) (on_axis n f).range) (on_axis n f).share margin (unit_in p f h k) (side_in (on_axis n p) (on_axis n f).range e g.range) e.distance_in g.share_in m
line_of_axis_in n p (PointFactor f) margin h k m =
    side_line_in (factor_side (on_axis n p) (on_axis n f)) margin (factor_side_in (on_axis n p) (on_axis n f) (both_on_axis IsEnds n p h) (both_on_axis IsFactor n f k)) m
