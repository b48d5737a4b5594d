-- The first line that is not below a height.
use mir.Syntax.{w64, w128}
use Rattle.std.proofs.Common.{◌≡◌, ℕ, ◌*◌, ◌^◌, ◌<◌, ◌≤◌, to_z, of_z, FitsSigned, not, arith, ap, sym, ◌∙◌, ℤ, pos, neg_ℤ, nat_abs, ◌+ℤ◌, ◌-ℤ◌, ◌*ℤ◌, ◌≤ℤ◌, ◌<ℤ◌, int_le, int_lt}
use Rattle.std.proofs.lemmas.Int.{ints, to_z-of_z, fits_signed_from_abs}
use Rattle.std.specs.Int.{int_div_euclid}
use Rattle.exact.proofs.Ring.{mul-add_z, mul-neg_z, mul_comm_z}
use Rattle.exact.proofs.Rounding.{floor_is, le_scale, le_unscale, lt_unscale}
use Rattle.polygons.specs.declared.lines.Lines.{Lines}
use Rattle.polygons.specs.Fills.{line_distance, level, line_from}
use Rattle.polygons.proofs.Tests.{le_true, le_from, same_test}

pub floor_within : (a : ℤ) (k m : ℕ) → 0 < k → nat_abs a ≤ k * m → nat_abs (int_div_euclid a (pos k)) ≤ m
floor_within a k m h p =
    let r = floor_is a k h in
    let q : ℤ = int_div_euclid a (pos k) in
    let e = mul-neg_z (pos k) (pos m) in
    let s = mul-add_z (pos k) q (pos 1) in
    let high : q ≤ℤ pos m = le_unscale k q (pos m) h (omega (arith, ints, r.0)) in
    let low : neg_ℤ (pos m) <ℤ (q +ℤ pos 1) = lt_unscale k (neg_ℤ (pos m)) (q +ℤ pos 1) (omega (arith, ints, r.1)) in
    omega (arith, ints, high, low)

-- q is a / k rounded down
above_floor : (a q j : ℤ) (k : ℕ) → 0 < k → (pos k *ℤ q) ≤ℤ a → neg_ℤ q ≤ℤ j → neg_ℤ a ≤ℤ (j *ℤ pos k)
above_floor a q j k h r p =
    let l = le_scale k (neg_ℤ q) j p in
    let e = mul-neg_z (pos k) q in
    let f = mul_comm_z (pos k) j in
    omega (arith, ints, l, r)

below_floor : (a q j : ℤ) (k : ℕ) → a <ℤ (pos k *ℤ q +ℤ pos k) → neg_ℤ a ≤ℤ (j *ℤ pos k) → neg_ℤ q ≤ℤ j
below_floor a q j k r p =
    let e = mul-neg_z (pos k) j in
    let f = mul_comm_z (pos k) j in
    let s = mul-add_z (pos k) q (pos 1) in
    let l : neg_ℤ j <ℤ (q +ℤ pos 1) = lt_unscale k (neg_ℤ j) (q +ℤ pos 1) (omega (arith, ints, r, p)) in
    omega (arith, ints, l)

back : (h : ℤ) → neg_ℤ (neg_ℤ h) ≡ h
back h = omega (arith, ints)

pub not_below : (lines : Lines) (h j : ℤ) → 0 < line_distance lines → line_from lines h ≤ℤ j → h ≤ℤ level lines j
not_below lines h j s p =
    let r = floor_is (neg_ℤ h) (line_distance lines) s in
    rw (← back h) (above_floor (neg_ℤ h) (int_div_euclid (neg_ℤ h) (pos (line_distance lines))) j (line_distance lines) s r.0 p)

pub from_height : (lines : Lines) (h j : ℤ) → 0 < line_distance lines → h ≤ℤ level lines j → line_from lines h ≤ℤ j
from_height lines h j s p =
    let r = floor_is (neg_ℤ h) (line_distance lines) s in
    let q : neg_ℤ (neg_ℤ h) ≤ℤ level lines j = rw back p in
    below_floor (neg_ℤ h) (int_div_euclid (neg_ℤ h) (pos (line_distance lines))) j (line_distance lines) r.1 q

-- a line is not below a height if its number is not below the first such line's
pub test_from : (lines : Lines) (h j : ℤ) → 0 < line_distance lines → int_le (line_from lines h) j ≡ int_le h (level lines j)
test_from lines h j s =
    same_test (int_le (line_from lines h) j) (int_le h (level lines j))
    (λ e. le_true h (level lines j) (not_below lines h j s (le_from (line_from lines h) j e)))
    (λ e. le_true (line_from lines h) j (from_height lines h j s (le_from h (level lines j) e)))

lt_is : (a b : ℤ) → int_lt a b ≡ not (int_le b a)
lt_is a b = grind (arith, ints)

pub test_below : (lines : Lines) (h j : ℤ) → 0 < line_distance lines → int_lt j (line_from lines h) ≡ int_lt (level lines j) h
test_below lines h j s = lt_is j (line_from lines h) ∙ ap not (test_from lines h j s) ∙ sym (lt_is (level lines j) h)

-- a number as it is read back from 128 bits, and from 64
abbrev pub t : ℤ → ℤ
t z = to_z w128 (of_z w128 z)

abbrev pub s : ℤ → ℤ
s z = to_z w64 (of_z w64 z)

-- the line below a height, as code computes it
pub record IsBelow (lines : Lines) (h b : ℤ) : Type 0 where
  pub is : b ≡ int_div_euclid (neg_ℤ h) (pos (line_distance lines))
  pub within : nat_abs b ≤ 2 ^ 25

minus : (h : ℤ) → pos 0 -ℤ h ≡ neg_ℤ h
minus h = omega (arith, ints)

minus_within : (h : ℤ) (m : ℕ) → nat_abs h ≤ m → nat_abs (neg_ℤ h) ≤ m
minus_within h m k = omega (arith, ints)

scaled_up : (n : ℕ) → 10 ^ 7 * 2 ^ 12 ≤ n → 10 ^ 7 * 2 ^ 37 ≤ n * 2 ^ 25
scaled_up n h = omega arith

pub below_read : (lines : Lines) (h f k b : ℤ) → nat_abs h ≤ 10 ^ 7 * 2 ^ 37 → 10 ^ 7 * 2 ^ 12 ≤ line_distance lines → line_distance lines ≤ 10 ^ 7 * 2 ^ 40
    → f ≡ s h → k ≡ pos (line_distance lines) → b ≡ int_div_euclid (t (pos 0 -ℤ t f)) (t k) → IsBelow lines h b
below_read lines h f k b m l u ef ek eb =
    let fh : FitsSigned w64 h = fits_signed_from_abs w64 h (omega arith) in
    let e = simp to_z-of_z at ef in
    let mf : nat_abs f ≤ 10 ^ 7 * 2 ^ 37 = rw e m in
    let n : nat_abs (neg_ℤ f) ≤ 10 ^ 7 * 2 ^ 37 = minus_within f (10 ^ 7 * 2 ^ 37) mf in
    let ff : FitsSigned w128 f = fits_signed_from_abs w128 f (omega arith) in
    let fn : FitsSigned w128 (neg_ℤ f) = fits_signed_from_abs w128 (neg_ℤ f) (omega arith) in
    let fk : FitsSigned w128 (pos (line_distance lines)) = fits_signed_from_abs w128 (pos (line_distance lines)) (omega arith) in
    let g : b ≡ int_div_euclid (neg_ℤ h) (pos (line_distance lines)) = rw (ek, to_z-of_z w128 f ff, minus f, to_z-of_z w128 (neg_ℤ f) fn, to_z-of_z w128 (pos (line_distance lines)) fk, e) at eb in
    record {
      is = g;
      within = rw g (floor_within (neg_ℤ h) (line_distance lines) (2 ^ 25) (omega arith) (omega (arith, minus_within h (10 ^ 7 * 2 ^ 37) m, scaled_up (line_distance lines) l)));
    }
