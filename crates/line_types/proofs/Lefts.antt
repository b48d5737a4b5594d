-- The dashes that are left of a line: one drawn gap after another, and one repetition after another.
use Rattle.std.proofs.Common.{◌≡◌, ℕ, suc, ◌+◌, ◌-◌, ◌%◌, ◌<◌, ◌≤◌, List, [], ◌∷◌, ◌++◌, nat_eq, false, filter, inl, inr, refl, ◌∙◌, arith, append_assoc}
use Rattle.std.proofs.lemmas.Bool.{lt-ltb, le-ltb, eq-eqb, ne_eqb, cases_lt}
use Rattle.std.specs.List.{range_with_len, flat_map}
use Rattle.line_types.specs.Patterns.{drawn_gaps}
use Rattle.line_types.specs.Left.{drawn_from, left_from}

-- of two numbers in a row, the first of them even
evens : (j k : ℕ) → j % 2 ≡ 0 → filter (λ i. nat_eq (i % 2) 0) (range_with_len j (suc (suc k))) ≡ j ∷ filter (λ i. nat_eq (i % 2) 0) (range_with_len (j + 2) k)
evens j k e =
    let odd : nat_eq ((j + 1) % 2) 0 ≡ false = ne_eqb _ _ (λ o. omega arith) in
    let next : j + 1 + 1 ≡ j + 2 = omega arith in
    rw (eq-eqb (j % 2) 0 e, odd, next) refl

one_even : (j : ℕ) → j % 2 ≡ 0 → filter (λ i. nat_eq (i % 2) 0) (range_with_len j 1) ≡ j ∷ []
one_even j e = rw (eq-eqb (j % 2) 0 e) refl

pub drawn_none : (j n : ℕ) → n ≤ j → drawn_from j n ≡ []
drawn_none j n h = let e : n - j ≡ 0 = omega arith in rw e refl

-- a drawn gap, and those from the one after the next on
pub drawn_more : (j n : ℕ) → j < n → j % 2 ≡ 0 → drawn_from j n ≡ j ∷ drawn_from (j + 2) n
drawn_more j n h e = elim (cases_lt (j + 1) n) [
  | inl l ↦ (let k : n - j ≡ suc (suc (n - (j + 2))) = omega arith in rw k (evens j (n - (j + 2)) e))
  | inr l ↦ (let k : n - j ≡ 1 = omega arith in rw (k, drawn_none (j + 2) n (omega arith)) (one_even j e))
]

drawn_first : (n : ℕ) → drawn_from 0 n ≡ drawn_gaps n
drawn_first n = let e : n - 0 ≡ n = omega arith in rw e refl

module _ {X : Type 0} (piece : ℕ → ℕ → List X) (n last : ℕ) where
  -- a gap of a repetition
  pub gap_more : (r j : ℕ) → r < last → j < n → j % 2 ≡ 0 → left_from piece n last r j ≡ piece r j ++ left_from piece n last r (j + 2)
  gap_more r j h k e = rw (lt-ltb r last h, drawn_more j n k e)
      (append_assoc (piece r j) (flat_map (piece r) (drawn_from (j + 2) n)) (flat_map (λ q. flat_map (piece q) (drawn_gaps n)) (range_with_len (r + 1) (last - (r + 1)))))

  pub none_left : (r j : ℕ) → last ≤ r → left_from piece n last r j ≡ []
  none_left r j h = rw (le-ltb r last h) refl

  -- what is left at a repetition's start
  whole : (r : ℕ) → r < last → left_from piece n last r 0 ≡ flat_map (λ q. flat_map (piece q) (drawn_gaps n)) (range_with_len r (last - r))
  whole r h = let e : last - r ≡ suc (last - (r + 1)) = omega arith in rw (lt-ltb r last h, drawn_first n, e) refl

  -- after the last drawn gap of a repetition comes the next repetition
  pub repetition_more : (r j : ℕ) → r < last → n ≤ j → left_from piece n last r j ≡ left_from piece n last (r + 1) 0
  repetition_more r j h k = elim (cases_lt (r + 1) last) [
    | inl l ↦ rw (whole (r + 1) l, lt-ltb r last h, drawn_none j n k) refl
    | inr l ↦ (let e : last - (r + 1) ≡ 0 = omega arith in rw (none_left (r + 1) 0 l, lt-ltb r last h, drawn_none j n k, e) refl)
  ]

  pub all_left : left_from piece n last 0 0 ≡ flat_map (λ q. flat_map (piece q) (drawn_gaps n)) (range_with_len 0 last)
  all_left = elim (cases_lt 0 last) [
    | inl l ↦ (let e : last - 0 ≡ last = omega arith in rw e at (whole 0 l))
    | inr l ↦ (let e : last ≡ 0 = omega arith in none_left 0 0 l ∙ rw e refl)
  ]
