use Rattle.std.proofs.Common.{◌≡◌, ◌≤◌, ◌^◌, ℤ, refl, pos, nat_abs, ◌-ℤ◌, ◌*ℤ◌, arith, to_z, of_z}
use mir.Syntax.{w128}
use Rattle.std.proofs.lemmas.Int.{ints, to_z-of_z}
use Rattle.exact.proofs.Fit.{product_within}
use Rattle.plot_frame.proofs.lines.line_for.Goals as goal

-- a number that is read back from its bits, since it fits them
abbrev IsRead : ℤ → Type 0
IsRead z = to_z w128 (of_z w128 z) ≡ z

record AreRead (origin distance least under : ℤ) : Type 0 where
  from : IsRead origin
  way : IsRead distance
  first : IsRead least
  below : IsRead under
  ahead : IsRead (origin *ℤ under)
  behind : IsRead (least *ℤ distance)
  difference : IsRead (origin *ℤ under -ℤ least *ℤ distance)
  slope : IsRead (pos 16 *ℤ distance)
  offset : IsRead (pos 16 *ℤ (origin *ℤ under -ℤ least *ℤ distance))
  ahead_in : nat_abs (origin *ℤ under) ≤ 2 ^ 71
  behind_in : nat_abs (least *ℤ distance) ≤ 2 ^ 86

are_read : (origin distance least under : ℤ) → nat_abs origin ≤ 2 ^ 27 → nat_abs distance ≤ 2 ^ 43 → nat_abs least ≤ 2 ^ 43 → nat_abs under ≤ 2 ^ 44
    → AreRead origin distance least under
are_read origin distance least under ho hd hl hu =
    let p = product_within origin under (2 ^ 27) (2 ^ 44) ho hu in
    let q = product_within least distance (2 ^ 43) (2 ^ 43) hl hd in
    record {
      from = to_z-of_z w128 origin (omega (arith, ints));
      way = to_z-of_z w128 distance (omega (arith, ints));
      first = to_z-of_z w128 least (omega (arith, ints));
      below = to_z-of_z w128 under (omega (arith, ints));
      ahead = to_z-of_z w128 (origin *ℤ under) (omega (arith, ints));
      behind = to_z-of_z w128 (least *ℤ distance) (omega (arith, ints));
      difference = to_z-of_z w128 (origin *ℤ under -ℤ least *ℤ distance) (omega (arith, ints));
      slope = to_z-of_z w128 (pos 16 *ℤ distance) (omega (arith, ints));
      offset = to_z-of_z w128 (pos 16 *ℤ (origin *ℤ under -ℤ least *ℤ distance)) (omega (arith, ints));
      ahead_in = omega arith;
      behind_in = omega arith;
    }

pub overflow_sub-result : goal.overflow_sub-result
overflow_sub-result c =
    let k = are_read c.args.origin c.args.distance c.args.least c.args.under c.requires.origin_in c.requires.distance_in c.requires.least_in c.requires.under_in in
    simp (k.from, k.way, k.first, k.below, k.ahead, k.behind) (omega (arith, ints, k.ahead_in, k.behind_in))

pub overflow_mul-result-4 : goal.overflow_mul-result-4
overflow_mul-result-4 c =
    let k = are_read c.args.origin c.args.distance c.args.least c.args.under c.requires.origin_in c.requires.distance_in c.requires.least_in c.requires.under_in in
    simp (k.from, k.way, k.first, k.below, k.ahead, k.behind, k.difference) (omega (arith, ints, k.ahead_in, k.behind_in))

pub returns : goal.returns
returns c =
    let k = are_read c.args.origin c.args.distance c.args.least c.args.under c.requires.origin_in c.requires.distance_in c.requires.least_in c.requires.under_in in
    record { value = simp (k.from, k.way, k.first, k.below, k.ahead, k.behind, k.difference, k.slope, k.offset) refl }
