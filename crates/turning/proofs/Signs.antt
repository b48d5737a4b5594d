-- Signs of products.
use Rattle.std.proofs.Common.{◌≡◌, ℕ, suc, zero, ◌≤◌, refl, arith, ℤ, pos}
use Rattle.std.proofs.Common.{negsuc, neg_ℤ, ◌-ℤ◌, ◌*ℤ◌, ◌≤ℤ◌, ◌<ℤ◌, int_le, Bool, true, false}
use Rattle.std.proofs.lemmas.Int.{ints}
use Rattle.exact.proofs.Ring.{mul-neg_z, mul-sub_z, neg-mul_z}
use Rattle.polygons.proofs.Tests.{le_from, le_not, le_true, same_test}

pub up_up : (a b : ℤ) → pos 0 ≤ℤ a → pos 0 ≤ℤ b → pos 0 ≤ℤ (a *ℤ b)
up_up (pos m) (pos n) h k = omega (arith, ints)
up_up (pos m) (negsuc n) h k = omega (arith, ints, k)
up_up (negsuc m) b h k = omega (arith, ints, h)

pub up_down : (a b : ℤ) → pos 0 ≤ℤ a → b ≤ℤ pos 0 → (a *ℤ b) ≤ℤ pos 0
up_down a b h k = let p = up_up a (neg_ℤ b) h (omega (arith, ints, k)) in let e = mul-neg_z a b in omega (arith, ints, p, e)

pub down_up : (a b : ℤ) → a ≤ℤ pos 0 → pos 0 ≤ℤ b → (a *ℤ b) ≤ℤ pos 0
down_up a b h k = let p = up_up (neg_ℤ a) b (omega (arith, ints, h)) k in let e = neg-mul_z a b in omega (arith, ints, p, e)

pub down_down : (a b : ℤ) → a ≤ℤ pos 0 → b ≤ℤ pos 0 → pos 0 ≤ℤ (a *ℤ b)
down_down a b h k = let p = up_down (neg_ℤ a) b (omega (arith, ints, h)) k in let e = neg-mul_z a b in omega (arith, ints, p, e)

both_up : (a b : ℤ) → pos 0 <ℤ a → pos 0 <ℤ b → pos 0 <ℤ (a *ℤ b)
both_up (pos zero) b h k = omega (arith, ints, h)
both_up (pos (suc m)) (pos zero) h k = omega (arith, ints, k)
both_up (pos (suc m)) (pos (suc n)) h k = omega (arith, ints)
both_up (pos (suc m)) (negsuc n) h k = omega (arith, ints, k)
both_up (negsuc m) b h k = omega (arith, ints, h)

-- strictly
pub above_below : (a b : ℤ) → pos 0 <ℤ a → b <ℤ pos 0 → (a *ℤ b) <ℤ pos 0
above_below a b h k = let p = both_up a (neg_ℤ b) h (omega (arith, ints, k)) in let e = mul-neg_z a b in omega (arith, ints, p, e)

pub below_above : (a b : ℤ) → a <ℤ pos 0 → pos 0 <ℤ b → (a *ℤ b) <ℤ pos 0
below_above a b h k = let p = both_up (neg_ℤ a) b (omega (arith, ints, h)) k in let e = neg-mul_z a b in omega (arith, ints, p, e)

-- a product that is 0, with a factor that is not
pub right_zero : (a b : ℤ) → pos 0 <ℤ a → pos 0 ≤ℤ b → a *ℤ b ≡ pos 0 → b ≡ pos 0
right_zero a (pos zero) h k e = refl
right_zero a (pos (suc n)) h k e = let p = both_up a (pos (suc n)) h (omega (arith, ints)) in omega (arith, ints, p, e)
right_zero a (negsuc n) h k e = omega (arith, ints, k)

pub right_zero_below : (a b : ℤ) → a <ℤ pos 0 → b ≤ℤ pos 0 → a *ℤ b ≡ pos 0 → b ≡ pos 0
right_zero_below a b h k e =
    let p = mul-neg_z (neg_ℤ a) b in
    let q = neg-mul_z a b in
    let z = right_zero (neg_ℤ a) (neg_ℤ b) (omega (arith, ints, h)) (omega (arith, ints, k)) (omega (arith, ints, p, q, e)) in
    omega (arith, ints, z)

scaled_back : (k : ℕ) (a b : ℤ) → 1 ≤ k → (pos k *ℤ a) ≤ℤ (pos k *ℤ b) → (s : Bool) → int_le a b ≡ s → s ≡ true
scaled_back k a b h t true e = refl
scaled_back k a b h t false e =
    let less = le_not a b e in
    let f = mul-sub_z (pos k) a b in
    let q = both_up (pos k) (a -ℤ b) (omega (arith, ints, h)) (omega (arith, ints, less)) in
    absurd (omega (arith, ints, f, q, t))

-- two multiples
pub scaled_test : (k : ℕ) (a b : ℤ) → 1 ≤ k → int_le (pos k *ℤ a) (pos k *ℤ b) ≡ int_le a b
scaled_test k a b h =
    let e = mul-sub_z (pos k) b a in
    same_test (int_le (pos k *ℤ a) (pos k *ℤ b)) (int_le a b)
    (λ t. scaled_back k a b h (le_from (pos k *ℤ a) (pos k *ℤ b) t) (int_le a b) refl)
    (λ t.
    let less = le_from a b t in
    let q = up_up (pos k) (b -ℤ a) (omega (arith, ints)) (omega (arith, ints, less)) in
    le_true (pos k *ℤ a) (pos k *ℤ b) (omega (arith, ints, e, q)))
