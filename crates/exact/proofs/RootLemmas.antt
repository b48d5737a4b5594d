-- Square roots: what the digits give is the root, and a number has one root.
use Rattle.std.proofs.Common.{◌≡◌, ℕ, zero, suc, ◌+◌, ◌*◌, ◌/◌, ◌^◌, ◌<◌, ◌≤◌, inl, inr, arith, ◌∙◌}
use Rattle.std.proofs.lemmas.Bool.{cases_lt}
use Rattle.std.proofs.lemmas.Bool.Decides.{nat_tests}
use Rattle.std.proofs.lemmas.Nat.{mul-le}
use Rattle.exact.specs.Roots.{IsRoot, raised, root_by, root}

-- the smaller of two roots is not below the other
not_below : (n r s : ℕ) → IsRoot n r → IsRoot n s → s ≤ r
not_below n r s a b = elim (cases_lt r s) [
  | inl l ↦ (let m : (r + 1) * (r + 1) ≤ s * s = mul-le (r + 1) (r + 1) s s (omega arith) (omega arith) in absurd (omega (arith, a.next_above, b.square_in)))
  | inr l ↦ l
]

-- a number has one root
pub one_root : (n r s : ℕ) → IsRoot n r → IsRoot n s → r ≡ s
one_root n r s a b = omega (arith, not_below n r s a b, not_below n s r b a)

-- the root of a quarter, doubled, is the root or one less
raised_is : (n r : ℕ) → IsRoot (n / 4) r → IsRoot n (raised n (2 * r))
raised_is n r h = elim (cases_lt n ((2 * r + 1) * (2 * r + 1))) [
  | inl l ↦ (let e : raised n (2 * r) ≡ 2 * r = grind (arith, nat_tests) in rw e (record { square_in = omega (arith, h.square_in); next_above = l }))
  | inr l ↦ (let e : raised n (2 * r) ≡ 2 * r + 1 = grind (arith, nat_tests) in rw e (record { square_in = l; next_above = omega (arith, h.next_above) }))
]

pub root_by_is : (k n : ℕ) → n < 4 ^ k → IsRoot n (root_by k n)
unfolding root_by
root_by_is zero n h = let e : n ≡ 0 = omega arith in rw e (record { square_in = omega arith; next_above = omega arith })
root_by_is (suc k) n h = raised_is n (root_by k (n / 4)) (root_by_is k (n / 4) (omega (arith)))

-- what is a root of a number of 128 bits is its root
pub root_is : (n m r s : ℕ) → n < 2 ^ 128 → m ≡ n → s ≡ r → r * r ≤ m → m < (r + 1) * (r + 1) → s ≡ root n
root_is n m r s h e f p q =
    f ∙ one_root n r (root n) (record { square_in = omega arith; next_above = omega arith }) (root_by_is 64 n h)
