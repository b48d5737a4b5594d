-- A share of a size is not far from 0.
use Rattle.std.proofs.Common.{ℕ, zero, suc, ◌*◌, ◌≤◌, inl, inr, arith, ℤ, pos, negsuc, ◌+ℤ◌, ◌*ℤ◌, ◌≤ℤ◌, ◌<ℤ◌, nat_abs, mul-le-mul_left}
use Rattle.std.proofs.lemmas.Bool.{cases_lt}
use Rattle.std.proofs.lemmas.Int.{ints}
use Rattle.exact.specs.Fraction.{round, quotient}
use Rattle.exact.proofs.Rounding.{meets_lem}

rounded_in : (a z : ℤ) (n m : ℕ) → nat_abs a ≤ m → (pos (2 * suc n) *ℤ z) ≤ℤ (pos 2 *ℤ a +ℤ pos (suc n)) → (pos 2 *ℤ a +ℤ pos (suc n)) <ℤ (pos (2 * suc n) *ℤ z +ℤ pos (2 * suc n)) → nat_abs z ≤ m
rounded_in a (pos k) n m h b c = elim (cases_lt m k) [
  | inl l ↦ (let p : n * suc m ≤ n * k = mul-le-mul_left n l in omega (arith, ints))
  | inr l ↦ omega (arith, ints)
]
rounded_in a (negsuc k) n m h b c = elim (cases_lt m (suc k)) [
  | inl l ↦ (let p : n * m ≤ n * k = mul-le-mul_left n (omega arith) in omega (arith, ints))
  | inr l ↦ omega (arith, ints)
]

-- the rounding of a bounded number is bounded
pub round_in : (a : ℤ) (n m : ℕ) → 1 ≤ n → nat_abs a ≤ m → nat_abs (round (quotient a (pos n))) ≤ m
round_in a zero m h k = absurd (omega arith)
round_in a (suc n) m h k =
    let r = meets_lem (quotient a (pos (suc n))) (omega arith) in
    rounded_in a (round (quotient a (pos (suc n)))) n m k r.least r.most
