-- Directions are as long as whole numbers allow.
use Rattle.std.proofs.Common.{◌≡◌, ℕ, zero, suc, ◌+◌, ◌-◌, ◌*◌, ◌/◌, ◌^◌, ◌<◌, ◌≤◌, inl, inr, arith, ◌∙◌, ap, sym, refl}
use Rattle.std.proofs.lemmas.Bool.{cases_lt}
use Rattle.std.proofs.lemmas.Bool.Decides.{nat_tests}
use Rattle.std.proofs.lemmas.Nat.{mul-le, pow_pos, pow-add, pow_below}
use Rattle.std.proofs.Math.Nat.{pow-suc}
use Rattle.exact.specs.Roots.{IsRoot, root}
use Rattle.exact.proofs.RootLemmas.{root_by_is}
use Rattle.directions.specs.Directions.{surplus, size_in}
use Rattle.directions.specs.Laws.{IsNearest}

-- no digit is surplus
pub surplus_none : (k n : ℕ) → n < 2 ^ 31 → surplus k n ≡ 0
unfolding surplus
surplus_none zero n h = refl
surplus_none (suc k) n h = grind (arith, nat_tests)

-- a digit more than those of the half
surplus_half : (k n : ℕ) → 2 ^ 31 ≤ n → surplus (suc k) n ≡ suc (surplus k (n / 2))
unfolding surplus
surplus_half k n h = grind (arith, nat_tests)

surplus_some : (k h n : ℕ) → h < k → 2 ^ 31 * 2 ^ h ≤ n → n < 2 ^ 31 * 2 ^ suc h → surplus k n ≡ suc h
surplus_some zero h n l p q = absurd (omega arith)
surplus_some (suc k) zero n l p q = surplus_half k n (omega arith) ∙ ap suc (surplus_none k (n / 2) (omega arith))
surplus_some (suc k) (suc h) n l p q =
    let e = pow-suc 2 h in
    let f = pow-suc 2 (suc h) in
    let i = pow_pos h in
    surplus_half k n (omega arith) ∙ ap suc (surplus_some k h (n / 2) (omega arith) (omega arith) (omega arith))

-- what is known of the surplus of n
pub record IsSurplus (n h : ℕ) : Type 0 where
  pub value : h ≡ surplus 96 n
  pub below : n < 2 ^ 31 * 2 ^ h
  pub at_least : 2 ^ h ≤ n
  pub most : h ≤ 95

few_digits : (n top : ℕ) → top ≤ 30 → 2 ^ top ≤ n → n < 2 * 2 ^ top → IsSurplus n 0
few_digits n top l p q = elim (cases_lt top 30) [
  | inl m ↦ (let b : 2 ^ top < 2 ^ 30 = pow_below top 30 m in let i = pow_pos top in record { value = sym (surplus_none 96 n (omega arith)); below = omega arith; at_least = omega arith; most = omega arith })
  | inr m ↦ (let e : top ≡ 30 = omega arith in let f : 2 ^ top ≡ 2 ^ 30 = ap (λ (k : ℕ). 2 ^ k) e in record { value = sym (surplus_none 96 n (omega arith)); below = omega arith; at_least = omega arith; most = omega arith })
]

many_digits : (n h : ℕ) → n ≤ 2 ^ 125 → 2 ^ (31 + h) ≤ n → n < 2 * 2 ^ (31 + h) → IsSurplus n (suc h)
many_digits n h b p q =
    let e : 2 ^ (31 + h) ≡ 2 ^ 31 * 2 ^ h = pow-add 2 31 h in
    let f = pow-suc 2 h in
    let most : h ≤ 94 = elim (cases_lt 94 h) [
      | inl l ↦ (let m : 2 ^ 125 < 2 ^ (31 + h) = pow_below 125 (31 + h) (omega arith) in absurd (omega arith))
      | inr l ↦ l
    ] in
    record {
      value = sym (surplus_some 96 h n (omega arith) (omega arith) (omega arith));
      below = omega arith;
      at_least = omega arith;
      most = omega arith;
    }

-- the surplus, from the number of the highest digit
pub surplus_by : (n top h : ℕ) → n ≤ 2 ^ 125 → 2 ^ top ≤ n → n < 2 * 2 ^ top → h ≡ top - 30 → IsSurplus n h
surplus_by n top h b p q e = elim (cases_lt 30 top) [
  | inl l ↦ (let f : top ≡ 31 + (top - 31) = omega arith in let g : h ≡ suc (top - 31) = omega arith in rw g (many_digits n (top - 31) b (rw f at p) (rw f at q)))
  | inr l ↦ (let g : h ≡ 0 = omega arith in rw g (few_digits n top l p q))
]

-- a root of a whole part, and what it is a part of
quotient_in : (over square q s : ℕ) → q * square ≤ over → over < q * square + square → IsRoot q s → (s * s * square ≤ over) × (over < (s + 1) * (s + 1) * square)
quotient_in over square q s p r h =
    let a : s * s * square ≤ q * square = mul-le (s * s) square q square h.square_in (omega arith) in
    let b : (q + 1) * square ≤ (s + 1) * (s + 1) * square = mul-le (q + 1) square ((s + 1) * (s + 1)) square (omega (arith, h.next_above)) (omega arith) in
    (omega arith, omega arith)

nearest_half : (over square s r : ℕ) → r ≡ (s + 1) / 2 → s * s * square ≤ over → over < (s + 1) * (s + 1) * square
    → ((2 * r - 1) * (2 * r - 1) * square ≤ over) × (over < (2 * r + 1) * (2 * r + 1) * square)
nearest_half over square s r e p q =
    let a : (2 * r - 1) * (2 * r - 1) ≤ s * s = mul-le (2 * r - 1) (2 * r - 1) s s (omega arith) (omega arith) in
    let b : (s + 1) * (s + 1) ≤ (2 * r + 1) * (2 * r + 1) = mul-le (s + 1) (s + 1) (2 * r + 1) (2 * r + 1) (omega arith) (omega arith) in
    let c : (2 * r - 1) * (2 * r - 1) * square ≤ s * s * square = mul-le ((2 * r - 1) * (2 * r - 1)) square (s * s) square a (omega arith) in
    let d : (s + 1) * (s + 1) * square ≤ (2 * r + 1) * (2 * r + 1) * square = mul-le ((s + 1) * (s + 1)) square ((2 * r + 1) * (2 * r + 1)) square b (omega arith) in
    (omega (arith, c, p), omega (arith, d, q))

quotient_most : (q square m : ℕ) → 0 < square → q * square ≤ m * square → q ≤ m
quotient_most q square m h l = elim (cases_lt m q) [
  | inl b ↦ (let c : (m + 1) * square ≤ q * square = mul-le (m + 1) square q square (omega arith) (omega arith) in absurd (omega arith))
  | inr b ↦ b
]

-- half of a root is at most the whole length
pub root_most : (square a s : ℕ) → 0 < square → a * a ≤ square → s * s ≤ 2 ^ 62 * (a * a) / square → s ≤ 2 ^ 31
root_most square a s h k r =
    let q : ℕ = 2 ^ 62 * (a * a) / square in
    let m : q * square ≤ 2 ^ 62 * square = omega arith in
    let q_most : q ≤ 2 ^ 62 = quotient_most q square (2 ^ 62) h m in
    elim (cases_lt (2 ^ 31) s) [
      | inl l ↦ (let b : (2 ^ 31 + 1) * (2 ^ 31 + 1) ≤ s * s = mul-le (2 ^ 31 + 1) (2 ^ 31 + 1) s s (omega arith) (omega arith) in absurd (omega (arith, b, r, q_most)))
      | inr l ↦ l
    ]

-- the size of a part is nearest
pub size_is_nearest : (square a : ℕ) → 0 < square → a * a ≤ square → IsNearest square a (size_in square a)
size_is_nearest square a h k =
    let over : ℕ = 2 ^ 62 * (a * a) in
    let q : ℕ = over / square in
    let least : q * square ≤ over = omega arith in
    let most : over < q * square + square = omega arith in
    let m : q * square ≤ 2 ^ 62 * square = omega arith in
    let q_most : q ≤ 2 ^ 62 = quotient_most q square (2 ^ 62) h m in
    let in_range : q < 2 ^ 128 = omega arith in
    let r = quotient_in over square q (root q) least most (root_by_is 64 q in_range) in
    let n = nearest_half over square (root q) (size_in square a) refl r.0 r.1 in
    record { least = n.0; most = n.1 }

-- the surplus leaves one digit or more
pub surplus_at_least : (k n : ℕ) → 0 < n → 2 ^ surplus k n ≤ n
unfolding surplus
surplus_at_least zero n h = h
surplus_at_least (suc k) n h = elim (cases_lt n (2 ^ 31)) [
  | inl l ↦ rw (surplus_none (suc k) n l) h
  | inr l ↦ (let e = pow-suc 2 (surplus k (n / 2)) in let m = surplus_at_least k (n / 2) (omega arith) in rw (surplus_half k n l) (omega arith))
]
