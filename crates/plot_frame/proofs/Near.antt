-- Coordinates near the page: moves on a line keep the arithmetic in its bounds, and places near the page have such coordinates.
use Rattle.std.proofs.Common.{refl, inl, inr, ◌≢◌, ◌≤◌, ◌^◌, ℕ, zero, suc, ◌+◌, ◌*◌, nat_abs, ℤ, pos, negsuc, ◌+ℤ◌, ◌-ℤ◌, ◌*ℤ◌, ◌≤ℤ◌, ◌<ℤ◌, arith}
use Rattle.std.proofs.lemmas.Int.{ints, unsigned_abs-mul}
use Rattle.std.proofs.lemmas.Bool.{cases_lt}
use Rattle.std.proofs.Math.Nat.{mul-le-mul_left}
use Rattle.exact.proofs.Fit.{product_within}
use Rattle.exact.proofs.Ring.{mul-add_z, mul_assoc_z}
use Rattle.exact.proofs.Rounding as rounding
use Rattle.exact.specs.Fraction.{Fraction, quotient, round}
use Rattle.plot_frame.specs.declared.axis.Axis.{Axis}
use Rattle.plot_frame.specs.Line.{place, back}
use Rattle.plot_frame.specs.Bounds.{IsLine, IsNear}

-- a factor that is not 0 makes a number no smaller
pub grows : (s u : ℤ) (m : ℕ) → s ≢ pos 0 → nat_abs (s *ℤ u) ≤ m → nat_abs u ≤ m
grows (pos zero) u m h k = absurd (h refl)
grows (pos (suc s)) u m h k = let e = unsigned_abs-mul (pos (suc s)) u in omega (arith, ints)
grows (negsuc s) u m h k = let e = unsigned_abs-mul (negsuc s) u in omega (arith, ints)

place_core : (z d : ℤ) → pos 0 <ℤ d → nat_abs (round (quotient z d)) ≤ 2 ^ 28 → nat_abs z ≤ 2 ^ 29 * nat_abs d
place_core z (pos n) h l =
    let f : Fraction = quotient z (pos n) in
    let m = rounding.meets_lem f (omega (arith, ints)) in
    let a = m.least in
    let b = m.most in
    let p = product_within (pos n) (round f) n (2 ^ 28) (omega arith) l in
    let e = mul_assoc_z (pos 2) (pos n) (round f) in
    omega (arith, ints)
place_core z (negsuc n) h l = absurd (omega (arith, ints))

back_core : (a s : ℤ) → s ≢ pos 0 → nat_abs (s *ℤ round (quotient a s) -ℤ a) ≤ nat_abs s
back_core a (pos zero) h = absurd (h refl)
back_core a (pos (suc n)) h =
    let f : Fraction = quotient a (pos (suc n)) in
    let m = rounding.meets_lem f (omega arith) in
    let b = m.least in
    let c = m.most in
    omega (arith, ints)
back_core a (negsuc n) h =
    let f : Fraction = quotient a (negsuc n) in
    let m = rounding.meets_lem f (omega arith) in
    let b = m.least in
    let c = m.most in
    omega (arith, ints)

rounded_in : (a z : ℤ) (n : ℕ) → nat_abs a ≤ 2 ^ 119 → (pos (2 * suc n) *ℤ z) ≤ℤ (pos 2 *ℤ a +ℤ pos (suc n)) → (pos 2 *ℤ a +ℤ pos (suc n)) <ℤ (pos (2 * suc n) *ℤ z +ℤ pos (2 * suc n)) → nat_abs z ≤ 2 ^ 120
rounded_in a (pos k) n h b c = elim (cases_lt (2 ^ 120) k) [
  | inl l ↦ (let m : n * suc (2 ^ 120) ≤ n * k = mul-le-mul_left n l in omega (arith, ints))
  | inr l ↦ omega (arith, ints)
]
rounded_in a (negsuc k) n h b c = elim (cases_lt (2 ^ 120) (suc k)) [
  | inl l ↦ (let m : n * 2 ^ 120 ≤ n * k = mul-le-mul_left n (omega arith) in omega (arith, ints))
  | inr l ↦ omega (arith, ints)
]

-- the rounding of a bounded number is bounded
pub round_in : (a d : ℤ) → pos 0 <ℤ d → nat_abs a ≤ 2 ^ 119 → nat_abs (round (quotient a d)) ≤ 2 ^ 120
round_in a (pos zero) h k = absurd (omega (arith, ints))
round_in a (pos (suc n)) h k =
    let f : Fraction = quotient a (pos (suc n)) in
    let r = rounding.meets_lem f (omega arith) in
    rounded_in a (round f) n k r.least r.most
round_in a (negsuc n) h k = absurd (omega (arith, ints))

-- one move on a line: added to the coordinate, or put in its place
pub moved_on : (a : Axis) (u n : ℤ) → IsLine a → IsNear a u → nat_abs n ≤ 2 ^ 55 → nat_abs (a.slope *ℤ (u +ℤ n)) ≤ 2 ^ 118
moved_on a u n l k h =
    let e = mul-add_z a.slope u n in
    let p = product_within a.slope n _ _ l.slope_in h in
    let o = l.offset_in in
    let w = l.under_in in
    let t = l.slope_in in
    let v = k.near in
    omega (arith, ints)

pub moved_to : (a : Axis) (n : ℤ) → IsLine a → nat_abs n ≤ 2 ^ 55 → nat_abs (a.slope *ℤ n) ≤ 2 ^ 118
moved_to a n l h =
    let p = product_within a.slope n _ _ l.slope_in h in
    omega (arith, ints)

-- a coordinate alone fits
pub near_in : (a : Axis) (u : ℤ) → IsLine a → IsNear a u → nat_abs u ≤ 2 ^ 105
near_in a u l k =
    let o = l.offset_in in
    let w = l.under_in in
    let t = l.slope_in in
    let v = k.near in
    grows a.slope u _ l.slope_not_0 (omega (arith, ints))

at_most_more : {a b : ℕ} (c : ℕ) → a ≤ b → a ≤ b + c
at_most_more {a} {b} c h = omega arith

-- a place near the page has a coordinate that is near
pub near_by_place : (a : Axis) (u : ℤ) → IsLine a → nat_abs (place a u) ≤ 2 ^ 28 → IsNear a u
near_by_place a u l h = record { near = at_most_more (nat_abs a.slope) (place_core (a.slope *ℤ u +ℤ a.offset) a.under l.under_above h) }

-- and so has one that is taken again from such a place
pub near_by_back : (a : Axis) (q : ℤ) → IsLine a → nat_abs q ≤ 2 ^ 28 → IsNear a (back a q)
near_by_back a q l h =
    let e = back_core (q *ℤ a.under -ℤ a.offset) a.slope l.slope_not_0 in
    let p = product_within q a.under (2 ^ 28) (nat_abs a.under) h (omega arith) in
    record { near = omega (arith, ints) }

-- a coordinate that is near has a place
pub near_product : (a : Axis) (u : ℤ) → IsLine a → IsNear a u → nat_abs (a.slope *ℤ u) ≤ 2 ^ 105
near_product a u l k =
    let o = l.offset_in in
    let w = l.under_in in
    let t = l.slope_in in
    let v = k.near in
    omega (arith, ints)

pub near_to_place : (a : Axis) (u : ℤ) → IsLine a → IsNear a u → nat_abs (a.slope *ℤ u) ≤ 2 ^ 118
near_to_place a u l k =
    let p = near_product a u l k in
    omega arith
