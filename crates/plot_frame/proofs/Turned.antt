-- Lines whose divisors are negative, and the sizes of lines.
use Rattle.std.proofs.Common.{◌≡◌, ◌≢◌, ◌≤◌, ◌^◌, ℕ, zero, suc, ◌+◌, refl, ap₂, arith, ℤ, pos, negsuc, ◌-ℤ◌, neg_ℤ, ◌<ℤ◌, ◌≤ℤ◌, nat_abs}
use Rattle.std.proofs.lemmas.Int.{ints}
use Rattle.exact.proofs.Fit.{product_within}
use Rattle.exact.specs.Fraction.{quotient}
use Rattle.plot_frame.specs.Line.{line_of, line_by}
use Rattle.plot_frame.specs.Bounds.{IsLine}

-- a quotient whose divisor is negative
pub quotient_turned : (a b : ℤ) → b <ℤ pos 0 → quotient (pos 0 -ℤ a) (pos 0 -ℤ b) ≡ quotient a b
quotient_turned a (pos n) h = absurd (omega (arith, ints))
quotient_turned a (negsuc n) h =
    let e : pos 0 -ℤ a ≡ neg_ℤ a = omega (arith, ints) in
    let f : 0 + suc n ≡ suc n = omega arith in
    ap₂ (λ (x : ℤ) (y : ℕ). quotient x (pos y)) e f

pub turned_axis : (origin d least a : ℤ) → a <ℤ pos 0 → line_of origin (pos 0 -ℤ d) least (pos 0 -ℤ a) ≡ line_by origin d least a
turned_axis origin d least (pos n) h = absurd (omega (arith, ints))
turned_axis origin d least (negsuc n) h =
    let e : pos 0 -ℤ d ≡ neg_ℤ d = omega (arith, ints) in
    let f : 0 + suc n ≡ suc n = omega arith in
    ap₂ (λ (x : ℤ) (y : ℕ). line_of origin x least (pos y)) e f

pub plain_axis : (origin d least a : ℤ) → pos 0 ≤ℤ a → line_of origin d least a ≡ line_by origin d least a
plain_axis origin d least (pos n) h = refl
plain_axis origin d least (negsuc n) h = absurd (omega (arith, ints))

line_in : (origin d least : ℤ) (n : ℕ) → nat_abs origin ≤ 2 ^ 27 → nat_abs d ≤ 2 ^ 43 → d ≢ pos 0 → nat_abs least ≤ 2 ^ 43 → suc n ≤ 2 ^ 44 → IsLine (line_of origin d least (pos (suc n)))
line_in origin d least n a b c e f =
    let p = product_within origin (pos (suc n)) _ _ a f in
    let q = product_within least d _ _ e b in
    record {
      slope_in = omega (arith, ints);
      slope_not_0 = λ h. c (omega (arith, ints));
      offset_in = omega (arith, ints);
      under_in = omega arith;
      under_above = omega (arith, ints);
    }

-- the line of a stretched side is within the bounds
pub stretched_in : (origin d least a : ℤ) → nat_abs origin ≤ 2 ^ 27 → nat_abs d ≤ 2 ^ 43 → d ≢ pos 0 → nat_abs least ≤ 2 ^ 43 → nat_abs a ≤ 2 ^ 44 → a ≢ pos 0 → IsLine (line_by origin d least a)
stretched_in origin d least (pos zero) h i j k l m = absurd (m refl)
stretched_in origin d least (pos (suc n)) h i j k l m = line_in origin d least n h i j k l
stretched_in origin d least (negsuc n) h i j k l m = line_in origin (neg_ℤ d) least n h (omega (arith, ints)) (λ z. j (omega (arith, ints))) k l
