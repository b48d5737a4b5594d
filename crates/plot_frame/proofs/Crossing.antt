-- A coordinate that is near on one axis of a frame is small on both, and so is its sum with a number of a plot.
use Rattle.std.proofs.Common.{◌≡◌, ◌≢◌, ◌≤◌, ◌<◌, ◌^◌, ℕ, zero, suc, ◌+◌, ◌*◌, refl, arith, ℤ, pos, negsuc, neg_ℤ, ◌+ℤ◌, ◌-ℤ◌, ◌*ℤ◌, nat_abs}
use Rattle.std.proofs.lemmas.Int.{ints, unsigned_abs-mul}
use Rattle.std.proofs.Math.Nat.{mul-le-mul_left, le_of_mul-le-mul_left, mul_comm}
use Rattle.exact.proofs.Fit.{product_within}
use Rattle.exact.proofs.Ring.{mul_assoc_z, mul-add_z}
use Rattle.exact.specs.Fraction.{Fraction}
use Rattle.plot_frame.specs.declared.axis.Axis.{Axis}
use Rattle.plot_frame.specs.declared.pair.AxisName.{AxisName}
use Rattle.plot_frame.specs.declared.pair.Pair.{Pair}
use Rattle.plot_frame.specs.declared.sides.Side.{Side}
use Rattle.plot_frame.specs.declared.scaling.Ends.{Ends}
use Rattle.plot_frame.specs.declared.scaling.FittedRange.{FittedRange}
use Rattle.plot_frame.specs.declared.scaling.Scaling.{Scaling}
use Rattle.plot_frame.specs.declared.scaling.Scaling.TheVariants.{Off, Anisotropic, Isotropic, PointFactor}
use Rattle.plot_frame.specs.Bounds.{Both, IsLine, IsNear, IsSmall, IsEnds, IsRange, IsFittedRange, IsFactor, IsPoints, IsScaling}
use Rattle.plot_frame.specs.Frame.{on_axis, sign, unit_size, side_of}
use Rattle.plot_frame.specs.Line.{axis_line, line_of, line_by, line_of_even}
use Rattle.plot_frame.proofs.InBounds.{line_of_axis_in}
use Rattle.plot_frame.proofs.Near.{near_product}
use Rattle.plot_frame.proofs.SideBounds.{both_on_axis, unit_in}
use Rattle.plot_frame.proofs.Values.{above_0}

-- such a coordinate on an axis, before a number is added
record IsCrossed (a : Axis) (u : ℤ) : Type 0 where
  size : nat_abs u ≤ 2 ^ 76
  product_in : nat_abs (a.slope *ℤ u) ≤ 2 ^ 114

divided_in : (a m n b : ℕ) → 0 < a → a * m ≤ 2 ^ 27 * n + 2 ^ 44 * a → 2 ^ 27 * n + 2 ^ 44 ≤ b → m ≤ b
divided_in a m n b h k l =
    let p : n * 1 ≤ n * a = mul-le-mul_left n h in
    let e = mul_comm n a in
    let q : a * (2 ^ 27 * n + 2 ^ 44) ≤ a * b = mul-le-mul_left a l in
    le_of_mul-le-mul_left {m = m} {n = b} {k = a} (omega arith) h

-- coordinates that are near on a line of these numbers are at most b
of_line : (origin d least : ℤ) (n b : ℕ) (u : ℤ) → nat_abs origin ≤ 2 ^ 26 → d ≢ pos 0 → nat_abs least ≤ 2 ^ 43 → 2 ^ 27 * n + 2 ^ 44 ≤ b
    → IsNear (line_of origin d least (pos n)) u → nat_abs u ≤ b
of_line origin d least n b u o z l h k =
    let v = k.near in
    let e = mul_assoc_z (pos 16) d u in
    let f = unsigned_abs-mul d u in
    let p = product_within origin (pos n) (2 ^ 26) n o (omega arith) in
    let q = product_within least d (2 ^ 43) (nat_abs d) l (omega arith) in
    let t : 0 < nat_abs d = omega (arith, ints, z) in
    divided_in (nat_abs d) (nat_abs u) n b t (omega (arith, ints)) h

of_line_by : (origin d least a : ℤ) (b : ℕ) (u : ℤ) → nat_abs origin ≤ 2 ^ 26 → d ≢ pos 0 → nat_abs least ≤ 2 ^ 43
    → 2 ^ 27 * nat_abs a + 2 ^ 44 ≤ b → IsNear (line_by origin d least a) u → nat_abs u ≤ b
of_line_by origin d least (pos n) b u o z l h k = of_line origin d least n b u o z l h k
of_line_by origin d least (negsuc n) b u o z l h k = of_line origin (neg_ℤ d) least (suc n) b u o (λ y. z (omega (arith, ints))) l h k

slope_by : (origin d least a : ℤ) → nat_abs (line_by origin d least a).slope ≡ 16 * nat_abs d
slope_by origin d least (pos n) = omega (arith, ints)
slope_by origin d least (negsuc n) = omega (arith, ints)

-- on a line that is not steep
small_by : (a : Axis) (u : ℤ) (steep most : ℕ) → nat_abs a.slope ≤ steep → nat_abs u ≤ most → most ≤ 2 ^ 76 → steep * most ≤ 2 ^ 114
    → IsCrossed a u
small_by a u steep most h l m n =
    let p = product_within a.slope u steep most h l in
    record { size = omega arith; product_in = omega arith }

near_unscaled : (margin : ℕ) (u : ℤ) → margin ≤ 524288 → IsNear (line_of (pos margin) (pos 1) (pos 0) (pos (10 ^ 6))) u → nat_abs u ≤ 2 ^ 67
near_unscaled margin u h k = of_line (pos margin) (pos 1) (pos 0) (10 ^ 6) (2 ^ 67) u (omega arith) (above_0 1 (omega arith))
    (omega arith) (omega arith) k

origin_in : (start : ℤ) (margin : ℕ) → nat_abs start ≤ 2 ^ 25 → margin ≤ 524288 → nat_abs (start +ℤ pos margin) ≤ 2 ^ 26
origin_in start margin h k = omega (arith, ints)

extent_in : (a b : ℤ) → nat_abs a ≤ 2 ^ 43 → nat_abs b ≤ 2 ^ 43 → 2 ^ 27 * nat_abs (b -ℤ a) + 2 ^ 44 ≤ 2 ^ 72
extent_in a b h k = omega (arith, ints)

-- the slopes of an isotropic frame are those of its unit, rising or falling
sign_times : (d a : ℤ) → d ≢ pos 0 → nat_abs (sign d *ℤ a) ≡ nat_abs a
sign_times (pos zero) a h = absurd (h refl)
sign_times (pos (suc n)) a h = omega (arith, ints)
sign_times (negsuc n) a h = omega (arith, ints)

slope_even : (size : Fraction) (s : Side) (percent : ℤ) (margin : ℕ) → s.distance ≢ pos 0 → s.extent ≢ pos 0
    → nat_abs (line_of_even size s percent margin).slope ≡ 16 * (10 ^ 8 * nat_abs size.over)
slope_even size s percent margin h k =
    let e = sign_times s.distance (sign s.extent *ℤ size.over) h in
    let f = sign_times s.extent size.over k in
    omega (arith, ints)

slope_fitted : (n : AxisName) (p : Pair Ends) (f : Pair FittedRange) (margin : ℕ) → IsPoints p → Both IsFittedRange f
    → nat_abs (axis_line n p (Isotropic f) margin).slope ≡ 16 * (10 ^ 8 * nat_abs (unit_size p f).over)
slope_fitted n p f margin h k = slope_even (unit_size p f) (side_of (on_axis n p) (on_axis n f).range) (on_axis n f).share margin
    (both_on_axis IsEnds n p h).apart (both_on_axis IsFittedRange n f k).range.apart

-- on two lines whose slopes are the same but for the sign
small_even : (a b : Axis) (u : ℤ) (m : ℕ) → nat_abs a.slope ≡ 16 * (10 ^ 8 * m) → 0 < m → nat_abs b.slope ≡ 16 * (10 ^ 8 * m)
    → nat_abs (a.slope *ℤ u) ≤ 2 ^ 105 → IsCrossed b u
small_even a b u m e h f k =
    let p = unsigned_abs-mul a.slope u in
    let q = unsigned_abs-mul b.slope u in
    let r : nat_abs u * 1 ≤ nat_abs u * m = mul-le-mul_left (nat_abs u) h in
    let t : nat_abs a.slope * nat_abs u ≡ (16 * 10 ^ 8) * (nat_abs u * m) = rw e (omega (arith, mul_comm m (nat_abs u))) in
    let v : nat_abs b.slope * nat_abs u ≡ (16 * 10 ^ 8) * (nat_abs u * m) = rw f (omega (arith, mul_comm m (nat_abs u))) in
    record { size = omega arith; product_in = omega arith }

-- a coordinate that is near on one axis, on either axis
crossed : (n m : AxisName) (p : Pair Ends) (s : Scaling) (here there : ℕ) (u : ℤ) → IsPoints p → IsScaling s → here ≤ 524288
    → IsNear (axis_line n p s here) u → IsCrossed (axis_line m p s there) u
crossed n m p Off here there u h k l w = small_by (axis_line m p Off there) u 16 (2 ^ 67) (omega arith) (near_unscaled here u l w)
    (omega arith) (omega arith)
crossed n m p (Anisotropic r) here there u h k l w =
    let e = on_axis n p in
    let g = on_axis n r in
    let d = on_axis m p in
    let i = both_on_axis IsEnds n p h in
    let j = both_on_axis IsRange n r k in
    let t = of_line_by (e.first +ℤ pos here) (e.last -ℤ e.first) g.least (g.most -ℤ g.least) (2 ^ 72) u
    (origin_in e.first here i.first_in l) i.apart j.least_in (extent_in g.least g.most j.least_in j.most_in) w in
    let q = slope_by (d.first +ℤ pos there) (d.last -ℤ d.first) (on_axis m r).least ((on_axis m r).most -ℤ (on_axis m r).least) in
    let v = (both_on_axis IsEnds m p h).distance_in in
    small_by (axis_line m p (Anisotropic r) there) u (2 ^ 29) (2 ^ 72) (omega arith) t (omega arith) (omega arith)
crossed n m p (PointFactor f) here there u h k l w =
    let e = on_axis n p in
    let g = on_axis n f in
    let i = both_on_axis IsEnds n p h in
    let j = both_on_axis IsFactor n f k in
    let t = of_line_by (e.first +ℤ pos here) g.factor g.least (pos (10 ^ 12)) (2 ^ 67) u
    (origin_in e.first here i.first_in l) j.factor_not_0 j.least_in (omega arith) w in
    let q = slope_by ((on_axis m p).first +ℤ pos there) (on_axis m f).factor (on_axis m f).least (pos (10 ^ 12)) in
    let v = (both_on_axis IsFactor m f k).factor_in in
    small_by (axis_line m p (PointFactor f) there) u (2 ^ 47) (2 ^ 67) (omega arith) t (omega arith) (omega arith)
crossed n m p (Isotropic f) here there u h k l w =
    let z = (unit_in p f h k).over_not_0 in
    small_even (axis_line n p (Isotropic f) here) (axis_line m p (Isotropic f) there) u (nat_abs (unit_size p f).over)
    (slope_fitted n p f here h k) (omega (arith, ints, z)) (slope_fitted m p f there h k)
    (near_product (axis_line n p (Isotropic f) here) u (line_of_axis_in n p (Isotropic f) here h k l) w)

-- the sum of such a coordinate and a number is small
sum_in : (a : Axis) (u n : ℤ) → IsLine a → IsCrossed a u → nat_abs n ≤ 2 ^ 55 → nat_abs (a.slope *ℤ (u +ℤ n)) ≤ 2 ^ 115
sum_in a u n l h k =
    let e = mul-add_z a.slope u n in
    let p = product_within a.slope n _ _ l.slope_in k in
    let x = h.product_in in
    omega (arith, ints)

-- a number alone is small
pub number_small : (axes : AxisName → Axis) (t : ℤ) → ((n : AxisName) → IsLine (axes n)) → nat_abs t ≤ 2 ^ 55 → IsSmall axes t
number_small axes t l k = record { size = omega arith; product_in = λ n. number_in (axes n) t (l n) k }
  where
    number_in : (a : Axis) (t : ℤ) → IsLine a → nat_abs t ≤ 2 ^ 55 → nat_abs (a.slope *ℤ t) ≤ 2 ^ 115
    number_in a t l k = let p = product_within a.slope t _ _ l.slope_in k in omega arith

-- coordinates near the page, with a number added
pub near_small : (n : AxisName) (p : Pair Ends) (s : Scaling) (margin : AxisName → ℕ) (u t : ℤ) → IsPoints p → IsScaling s
    → ((m : AxisName) → margin m ≤ 524288) → IsNear (axis_line n p s (margin n)) u → nat_abs t ≤ 2 ^ 55
    → IsSmall (λ m. axis_line m p s (margin m)) (u +ℤ t)
near_small n p s margin u t h k l v w =
    let a : (m : AxisName) → IsCrossed (axis_line m p s (margin m)) u = λ m. crossed n m p s (margin n) (margin m) u h k (l n) v in
    let b = (a n).size in
    record {
      size = omega (arith, ints);
      product_in = λ m. sum_in (axis_line m p s (margin m)) u t (line_of_axis_in m p s (margin m) h k (l m)) (a m) w;
    }
