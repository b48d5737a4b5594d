-- A rounded quotient lies between two whole numbers if the quotient does.
use Rattle.std.proofs.Common.{◌≡◌, ℕ, ◌*◌, ◌<◌, ◌≤◌, arith, ℤ, pos, negsuc, neg_ℤ, nat_abs, ◌+ℤ◌, ◌*ℤ◌, ◌≤ℤ◌, ◌<ℤ◌}
use Rattle.std.proofs.lemmas.Int.{ints}
use Rattle.exact.proofs.Ring.{mul-add_z, mul-neg_z}
use Rattle.exact.proofs.Rounding.{meets_lem, lt_unscale}
use Rattle.exact.specs.Fraction.{quotient, round}

at_most_lem : (k : ℕ) (a z d : ℤ) → 0 < k → (pos (2 * k) *ℤ z) ≤ℤ (pos 2 *ℤ a +ℤ pos k) → a ≤ℤ (pos k *ℤ d) → z ≤ℤ d
at_most_lem k a z d h least above =
    let e = mul-add_z (pos (2 * k)) d (pos 1) in
    let l : z <ℤ (d +ℤ pos 1) = lt_unscale (2 * k) z (d +ℤ pos 1) (omega (arith, ints)) in
    omega (arith, ints)

at_least_lem : (k : ℕ) (a z d : ℤ) → 0 < k → (pos 2 *ℤ a +ℤ pos k) <ℤ (pos (2 * k) *ℤ z +ℤ pos (2 * k)) → (pos k *ℤ d) ≤ℤ a → d ≤ℤ z
at_least_lem k a z d h most below =
    let e = mul-add_z (pos (2 * k)) z (pos 1) in
    let l : d <ℤ (z +ℤ pos 1) = lt_unscale (2 * k) d (z +ℤ pos 1) (omega (arith, ints)) in
    omega (arith, ints)

pub at_most : (k : ℕ) (a d : ℤ) → 0 < k → a ≤ℤ (pos k *ℤ d) → round (quotient a (pos k)) ≤ℤ d
at_most k a d h p = let r = meets_lem (quotient a (pos k)) h in at_most_lem k a (round (quotient a (pos k))) d h r.least p

pub at_least : (k : ℕ) (a d : ℤ) → 0 < k → (pos k *ℤ d) ≤ℤ a → d ≤ℤ round (quotient a (pos k))
at_least k a d h p = let r = meets_lem (quotient a (pos k)) h in at_least_lem k a (round (quotient a (pos k))) d h r.most p

pub within : (k m : ℕ) (a : ℤ) → 0 < k → nat_abs a ≤ k * m → nat_abs (round (quotient a (pos k))) ≤ m
within k m a h p =
    let e = mul-neg_z (pos k) (pos m) in
    let high : round (quotient a (pos k)) ≤ℤ pos m = at_most k a (pos m) h (omega (arith, ints)) in
    let low : neg_ℤ (pos m) ≤ℤ round (quotient a (pos k)) = at_least k a (neg_ℤ (pos m)) h (omega (arith, ints)) in
    let z : ℤ = round (quotient a (pos k)) in
    omega (arith, ints)

pub not_zero : (k : ℕ) (a : ℤ) → 0 < k → k ≤ nat_abs a → 0 < nat_abs (round (quotient a (pos k)))
not_zero k (pos n) h p = let l : pos 1 ≤ℤ round (quotient (pos n) (pos k)) = at_least k (pos n) (pos 1) h (omega (arith, ints)) in omega (arith, ints)
not_zero k (negsuc n) h p =
    let e = mul-neg_z (pos k) (pos 1) in
    let l : round (quotient (negsuc n) (pos k)) ≤ℤ negsuc 0 = at_most k (negsuc n) (negsuc 0) h (omega (arith, ints)) in
    omega (arith, ints)

-- a multiple is divided exactly
pub exactly : (k : ℕ) (a d : ℤ) → 0 < k → a ≡ pos k *ℤ d → round (quotient a (pos k)) ≡ d
exactly k a d h e =
    let z : ℤ = round (quotient a (pos k)) in
    let high : z ≤ℤ d = at_most k a d h (omega (arith, ints)) in
    let low : d ≤ℤ z = at_least k a d h (omega (arith, ints)) in
    omega (arith, ints, high, low)
