use Rattle.std.proofs.Common.{◌≡◌, ◌^◌, ◌≤◌, ℤ, refl, pos, nat_abs, ◌+ℤ◌, ◌-ℤ◌, ◌*ℤ◌, arith, to_z, of_z}
use mir.Syntax.{w128}
use Rattle.std.proofs.lemmas.Int.{ints, to_z-of_z}
use Rattle.exact.proofs.Fit.{product_within}
use Rattle.plot_frame.specs.declared.sides.Side.{Side}
use Rattle.plot_frame.specs.Bounds.{IsSide}
use Rattle.plot_frame.proofs.lines.offset_for.Goals as goal

-- a number that is read back from its bits, since it fits them
abbrev IsRead : ℤ → Type 0
IsRead z = to_z w128 (of_z w128 z) ≡ z

-- each number on the way
record AreRead (u v o : ℤ) (s : Side) (p l h b a : ℤ) : Type 0 where
  unit : IsRead u
  under : IsRead v
  origin : IsRead o
  distance : IsRead s.distance
  extent : IsRead s.extent
  least : IsRead s.least
  percent : IsRead p
  covered : IsRead (s.distance *ℤ v)
  range : IsRead (u *ℤ s.extent)
  left : IsRead l
  share : IsRead h
  way : IsRead (u *ℤ s.least)
  behind : IsRead b
  whole : IsRead (pos (10 ^ 8) *ℤ v)
  ahead : IsRead a
  sum : IsRead (a +ℤ h)
  difference : IsRead (a +ℤ h -ℤ b)
  result : IsRead (pos 16 *ℤ (a +ℤ h -ℤ b))
  left_in : nat_abs l ≤ 2 ^ 70
  share_in : nat_abs h ≤ 2 ^ 97
  way_in : nat_abs (u *ℤ s.least) ≤ 2 ^ 68
  behind_in : nat_abs b ≤ 2 ^ 95
  ahead_in : nat_abs a ≤ 2 ^ 97
  result_in : nat_abs (pos 16 *ℤ (a +ℤ h -ℤ b)) ≤ 2 ^ 104

are_read : (unit under origin : ℤ) (side : Side) (percent : ℤ) → nat_abs unit ≤ 2 ^ 25 → nat_abs under ≤ 2 ^ 44 → nat_abs origin ≤ 2 ^ 26 → IsSide side
    → nat_abs side.distance ≤ 2 ^ 25 → nat_abs percent ≤ 10 ^ 8
    → AreRead unit under origin side percent (side.distance *ℤ under -ℤ unit *ℤ side.extent)
    (percent *ℤ (side.distance *ℤ under -ℤ unit *ℤ side.extent)) (pos (10 ^ 8) *ℤ (unit *ℤ side.least)) (origin *ℤ (pos (10 ^ 8) *ℤ under))
are_read unit under origin side percent hu hv ho h hd hp =
    let covered = product_within side.distance under (2 ^ 25) (2 ^ 44) hd hv in
    let range = product_within unit side.extent (2 ^ 25) (2 ^ 44) hu h.extent_in in
    let left = side.distance *ℤ under -ℤ unit *ℤ side.extent in
    let left_in : nat_abs left ≤ 2 ^ 70 = omega (arith, ints) in
    let share_in : nat_abs (percent *ℤ left) ≤ 2 ^ 97 = (let p = product_within percent left (10 ^ 8) (2 ^ 70) hp left_in in omega arith) in
    let way = product_within unit side.least (2 ^ 25) (2 ^ 43) hu h.least_in in
    let whole : nat_abs (pos (10 ^ 8) *ℤ under) ≤ 2 ^ 71 = omega (arith, ints) in
    let ahead_in : nat_abs (origin *ℤ (pos (10 ^ 8) *ℤ under)) ≤ 2 ^ 97 = product_within origin (pos (10 ^ 8) *ℤ under) (2 ^ 26) (2 ^ 71) ho whole in
    let ks = h.least_in in
    let ke = h.extent_in in
    record {
      unit = to_z-of_z w128 _ (omega (arith, ints));
      under = to_z-of_z w128 _ (omega (arith, ints));
      origin = to_z-of_z w128 _ (omega (arith, ints));
      distance = to_z-of_z w128 _ (omega (arith, ints));
      extent = to_z-of_z w128 _ (omega (arith, ints));
      least = to_z-of_z w128 _ (omega (arith, ints));
      percent = to_z-of_z w128 _ (omega (arith, ints));
      covered = to_z-of_z w128 _ (omega (arith, ints));
      range = to_z-of_z w128 _ (omega (arith, ints));
      left = to_z-of_z w128 _ (omega (arith, ints));
      share = to_z-of_z w128 _ (omega (arith, ints));
      way = to_z-of_z w128 _ (omega (arith, ints));
      behind = to_z-of_z w128 _ (omega (arith, ints));
      whole = to_z-of_z w128 _ (omega (arith, ints));
      ahead = to_z-of_z w128 _ (omega (arith, ints));
      sum = to_z-of_z w128 _ (omega (arith, ints));
      difference = to_z-of_z w128 _ (omega (arith, ints));
      result = to_z-of_z w128 _ (omega (arith, ints));
      left_in = left_in;
      share_in = share_in;
      way_in = omega arith;
      behind_in = omega (arith, ints);
      ahead_in = ahead_in;
      result_in = omega (arith, ints);
    }

pub overflow_sub-left_over : goal.overflow_sub-left_over
overflow_sub-left_over c =
    let k = are_read c.args.unit c.args.under c.args.origin c.args.side c.args.percent c.requires.unit_in c.requires.under_in c.requires.origin_in c.requires.side c.requires.short c.requires.percent_in in
    simp (k.unit, k.under, k.distance, k.extent, k.covered, k.range) (omega (arith, ints, k.left_in))

pub overflow_mul-share : goal.overflow_mul-share
overflow_mul-share c =
    let k = are_read c.args.unit c.args.under c.args.origin c.args.side c.args.percent c.requires.unit_in c.requires.under_in c.requires.origin_in c.requires.side c.requires.short c.requires.percent_in in
    simp (k.unit, k.under, k.distance, k.extent, k.covered, k.range, k.left, k.percent) (omega (arith, ints, k.share_in))

pub overflow_mul-behind : goal.overflow_mul-behind
overflow_mul-behind c =
    let k = are_read c.args.unit c.args.under c.args.origin c.args.side c.args.percent c.requires.unit_in c.requires.under_in c.requires.origin_in c.requires.side c.requires.short c.requires.percent_in in
    simp (k.unit, k.least) (omega (arith, ints, k.way_in))

pub overflow_mul-behind-2 : goal.overflow_mul-behind-2
overflow_mul-behind-2 c =
    let k = are_read c.args.unit c.args.under c.args.origin c.args.side c.args.percent c.requires.unit_in c.requires.under_in c.requires.origin_in c.requires.side c.requires.short c.requires.percent_in in
    simp (k.unit, k.least, k.way) (omega (arith, ints, k.behind_in))

pub overflow_mul-ahead-2 : goal.overflow_mul-ahead-2
overflow_mul-ahead-2 c =
    let k = are_read c.args.unit c.args.under c.args.origin c.args.side c.args.percent c.requires.unit_in c.requires.under_in c.requires.origin_in c.requires.side c.requires.short c.requires.percent_in in
    simp (k.origin, k.under, k.whole) (omega (arith, ints, k.ahead_in))

pub overflow_add-result : goal.overflow_add-result
overflow_add-result c =
    let k = are_read c.args.unit c.args.under c.args.origin c.args.side c.args.percent c.requires.unit_in c.requires.under_in c.requires.origin_in c.requires.side c.requires.short c.requires.percent_in in
    simp (k.unit, k.under, k.origin, k.distance, k.extent, k.percent, k.covered, k.range, k.left, k.share, k.whole, k.ahead) (omega (arith, ints, k.share_in, k.ahead_in))

pub overflow_sub-result : goal.overflow_sub-result
overflow_sub-result c =
    let k = are_read c.args.unit c.args.under c.args.origin c.args.side c.args.percent c.requires.unit_in c.requires.under_in c.requires.origin_in c.requires.side c.requires.short c.requires.percent_in in
    simp (k.unit, k.under, k.origin, k.distance, k.extent, k.least, k.percent, k.covered, k.range, k.left, k.share, k.way, k.behind, k.whole, k.ahead, k.sum) (omega (arith, ints, k.share_in, k.behind_in, k.ahead_in))

pub overflow_mul-result : goal.overflow_mul-result
overflow_mul-result c =
    let k = are_read c.args.unit c.args.under c.args.origin c.args.side c.args.percent c.requires.unit_in c.requires.under_in c.requires.origin_in c.requires.side c.requires.short c.requires.percent_in in
    simp (k.unit, k.under, k.origin, k.distance, k.extent, k.least, k.percent, k.covered, k.range, k.left, k.share, k.way, k.behind, k.whole, k.ahead, k.sum, k.difference) (omega (arith, ints, k.result_in))

pub returns : goal.returns
returns c =
    let k = are_read c.args.unit c.args.under c.args.origin c.args.side c.args.percent c.requires.unit_in c.requires.under_in c.requires.origin_in c.requires.side c.requires.short c.requires.percent_in in
    record {
      value = simp (k.unit, k.under, k.origin, k.distance, k.extent, k.least, k.percent, k.covered, k.range, k.left, k.share, k.way, k.behind, k.whole, k.ahead, k.sum, k.difference, k.result) refl;
      bound = simp (k.unit, k.under, k.origin, k.distance, k.extent, k.least, k.percent, k.covered, k.range, k.left, k.share, k.way, k.behind, k.whole, k.ahead, k.sum, k.difference, k.result) k.result_in;
    }
