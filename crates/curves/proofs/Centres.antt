-- The centre of the circle through three places is not where the arc sets out.
use Rattle.std.proofs.Common.{◌≡◌, ℕ, zero, suc, ◌+◌, ◌*◌, ◌<◌, ◌≤◌, inl, inr, refl, sym, ap, ap₂, ◌∙◌, arith}
use Rattle.std.proofs.Common.{ℤ, pos, nat_abs, ◌+ℤ◌, ◌-ℤ◌, ◌*ℤ◌}
use Rattle.std.proofs.lemmas.Bool.{cases_lt}
use Rattle.std.proofs.lemmas.Int.{ints, unsigned_abs-mul}
use Rattle.std.proofs.lemmas.Nat.{mul-le}
use Rattle.exact.specs.declared.spot.Spot.{Spot}
use Rattle.exact.specs.Fraction.{round, quotient}
use Rattle.exact.proofs.Ring.{mul_comm_z, mul_assoc_z, sub-mul_z, mul-sub_z}
use Rattle.directions.specs.Directions.{square_of}
use Rattle.curves.specs.Arcs.{centre_of}
use Rattle.curves.specs.Bounds.{IsNotZero}
use Rattle.curves.specs.Vectors.{cross}
use Rattle.curves.proofs.VectorLemmas.{divided_above}

-- a product with the factors in another order
regrouped : (k a b : ℤ) → (k *ℤ a) *ℤ b ≡ k *ℤ (b *ℤ a)
regrouped k a b = mul_assoc_z k a b ∙ ap (λ (z : ℤ). k *ℤ z) (mul_comm_z a b)

cancelled : (p q r : ℤ) → (p -ℤ q) +ℤ (q -ℤ r) ≡ p -ℤ r
cancelled p q r = omega (arith, ints)

-- the part of the way to the centre along b, before it is divided
along_is : (k l bx by cx cy : ℤ) → (k *ℤ cy -ℤ l *ℤ by) *ℤ bx +ℤ (l *ℤ bx -ℤ k *ℤ cx) *ℤ by ≡ k *ℤ (bx *ℤ cy -ℤ by *ℤ cx)
along_is k l bx by cx cy =
    let e : (k *ℤ cy -ℤ l *ℤ by) *ℤ bx ≡ k *ℤ (bx *ℤ cy) -ℤ l *ℤ (bx *ℤ by) =
    sub-mul_z (k *ℤ cy) (l *ℤ by) bx ∙ ap₂ (λ (x y : ℤ). x -ℤ y) (regrouped k cy bx) (regrouped l by bx) in
    let f : (l *ℤ bx -ℤ k *ℤ cx) *ℤ by ≡ l *ℤ (bx *ℤ by) -ℤ k *ℤ (by *ℤ cx) =
    sub-mul_z (l *ℤ bx) (k *ℤ cx) by ∙ ap₂ (λ (x y : ℤ). x -ℤ y) (mul_assoc_z l bx by) (regrouped k cx by) in
    ap₂ (λ (x y : ℤ). x +ℤ y) e f
    ∙ cancelled (k *ℤ (bx *ℤ cy)) (l *ℤ (bx *ℤ by)) (k *ℤ (by *ℤ cx))
    ∙ sym (mul-sub_z k (bx *ℤ cy) (by *ℤ cx))

sum_size : (a b : ℤ) → nat_abs (a +ℤ b) ≤ nat_abs a + nat_abs b
sum_size a b = omega (arith, ints)

-- the same, by sizes
along_size : (k : ℕ) (l bx by cx cy : ℤ)
    → k * nat_abs (bx *ℤ cy -ℤ by *ℤ cx)
    ≤ nat_abs (pos k *ℤ cy -ℤ l *ℤ by) * nat_abs bx + nat_abs (l *ℤ bx -ℤ pos k *ℤ cx) * nat_abs by
along_size k l bx by cx cy =
    let x : ℤ = bx *ℤ cy -ℤ by *ℤ cx in
    let m : ℤ = pos k *ℤ cy -ℤ l *ℤ by in
    let n : ℤ = l *ℤ bx -ℤ pos k *ℤ cx in
    let a : nat_abs (pos k *ℤ x) ≡ k * nat_abs x = unsigned_abs-mul (pos k) x in
    let b : nat_abs (m *ℤ bx) ≡ nat_abs m * nat_abs bx = unsigned_abs-mul m bx in
    let c : nat_abs (n *ℤ by) ≡ nat_abs n * nat_abs by = unsigned_abs-mul n by in
    let s = sum_size (m *ℤ bx) (n *ℤ by) in
    let e : nat_abs (m *ℤ bx +ℤ n *ℤ by) ≡ nat_abs (pos k *ℤ x) = ap nat_abs (along_is (pos k) l bx by cx cy) in
    omega (arith, a, b, c, s, e)

at_most_square : (v : ℕ) → v ≤ v * v
at_most_square zero = omega arith
at_most_square (suc v) = omega arith

-- one of the two parts is large enough
is_large : (u v x m n : ℕ) → 0 < x → (u * u + v * v) * x ≤ m * u + n * v → 128 * m < x → 128 * n < x → (u ≡ 0) × (v ≡ 0)
is_large zero zero x m n h l p q = (refl, refl)
is_large (suc u) v x m n h l p q =
    let a : 128 * m * suc u ≤ x * suc u = mul-le (128 * m) (suc u) x (suc u) (omega arith) (omega arith) in
    let b : 128 * n * v ≤ x * v = mul-le (128 * n) v x v (omega arith) (omega arith) in
    let c : x * suc u ≤ x * (suc u * suc u) = mul-le x (suc u) x (suc u * suc u) (omega arith) (omega arith) in
    let d : v ≤ v * v = at_most_square v in
    let e : x * v ≤ x * (v * v) = mul-le x v x (v * v) (omega arith) d in
    let f : 1 * 1 ≤ x * suc u = mul-le 1 1 x (suc u) h (omega arith) in
    absurd (omega (arith, a, b, c, e, f))
is_large zero (suc v) x m n h l p q =
    let b : 128 * n * suc v ≤ x * suc v = mul-le (128 * n) (suc v) x (suc v) (omega arith) (omega arith) in
    let e : x * suc v ≤ x * (suc v * suc v) = mul-le x (suc v) x (suc v * suc v) (omega arith) (omega arith) in
    let f : 1 * 1 ≤ x * suc v = mul-le 1 1 x (suc v) h (omega arith) in
    absurd (omega (arith, b, e, f))

times_256 : (a : ℤ) → nat_abs (pos 256 *ℤ a) ≡ 256 * nat_abs a
times_256 a = unsigned_abs-mul (pos 256) a

twice_size : (a : ℤ) → nat_abs (pos 2 *ℤ a) ≡ 2 * nat_abs a
twice_size a = unsigned_abs-mul (pos 2) a

-- what is divided is no smaller than what it is divided by
quotient_above : (a x : ℤ) → 0 < nat_abs x → nat_abs x ≤ 128 * nat_abs a → 0 < nat_abs (round (quotient (pos 256 *ℤ a) (pos 2 *ℤ x)))
quotient_above a x h l =
    let e = times_256 a in
    let f = twice_size x in
    divided_above (pos 256 *ℤ a) (pos 2 *ℤ x) (omega (arith, f)) (omega (arith, e, f))

none : (b c : Spot) → nat_abs b.x ≡ 0 → nat_abs b.y ≡ 0 → 0 < nat_abs (cross b c) → ⊥
none b c p q h =
    let e : b.x ≡ pos 0 = omega (arith, ints) in
    let f : b.y ≡ pos 0 = omega (arith, ints) in
    let g = rw (e, f) at h in
    omega (arith, ints)

-- b and c not on one line: the centre is not (0, 0)
pub centre_above : (b c : Spot) → 0 < nat_abs (cross b c) → IsNotZero (centre_of b c)
centre_above b c h =
    let k : ℕ = square_of b in
    let m : ℤ = pos k *ℤ c.y -ℤ pos (square_of c) *ℤ b.y in
    let n : ℤ = pos (square_of c) *ℤ b.x -ℤ pos k *ℤ c.x in
    let s = along_size k (pos (square_of c)) b.x b.y c.x c.y in
    elim (cases_lt (128 * nat_abs m) (nat_abs (cross b c))) [
      | inr l ↦ (let p = quotient_above m (cross b c) h l in omega (arith, p))
      | inl l ↦ elim (cases_lt (128 * nat_abs n) (nat_abs (cross b c))) [
        | inr i ↦ (let p = quotient_above n (cross b c) h i in omega (arith, p))
        | inl i ↦ (let z = is_large (nat_abs b.x) (nat_abs b.y) (nat_abs (cross b c)) (nat_abs m) (nat_abs n) h s l i in
            absurd (none b c z.0 z.1 h))
      ]
    ]
