-- Rows that are passed, one after another.
use Rattle.std.proofs.Common.{◌≡◌, ◌≢◌, ◌∙◌, sym, ap, refl, subst, inl, inr, ℕ, zero, suc, ◌+◌, ◌<◌, ◌≤◌, Bool, cond, ◌==◌, List, [], length, drop, get_or, Option, Some, None, option_map, Result, Ok, Err, MatchResult, arith}
use Rattle.std.proofs.lemmas.Bool.{cases_lt}
use Rattle.std.proofs.lemmas.List.Sorted.{searched}
use Rattle.std.specs.List.Sorted.{IsBinarySearchResult}
use Rattle.std.specs.Ordering.{nat_cmp}
use Rattle.raster_graphics.specs.Positions.{Ascends}
use Rattle.std.proofs.lemmas.Bool.{ne_eqb, eq-eqb}
use Rattle.std.proofs.Math.Seq.{drop-cons}
use Rattle.std.proofs.Math.ListN.{drop_of_length-le}
use Rattle.raster_graphics.specs.Positions.{position_of}

-- a position that so many come before
abbrev pub later : ℕ → Option ℕ → Option ℕ
later count found = option_map (λ k. k + count) found

later_none : (found : Option ℕ) → found ≡ later 0 found
later_none None = refl
later_none (Some k) = let e : k ≡ k + 0 = omega arith in ap Some e

later_more : (count : ℕ) (found : Option ℕ) → later count (option_map (λ k. k + 1) found) ≡ later (count + 1) found
later_more count None = refl
later_more count (Some k) = let e : (k + 1) + count ≡ k + (count + 1) = omega arith in ap Some e

pub none_passed : (row : ℕ) (numbers : List ℕ) → position_of row numbers ≡ later 0 (position_of row numbers)
none_passed row numbers = later_none (position_of row numbers)

at_next : (row position : ℕ) (numbers : List ℕ) → position < length numbers
    → position_of row (drop position numbers) ≡ cond (get_or numbers position 0 == row) (Some 0) (option_map (λ k. k + 1)
    (position_of row (drop (suc position) numbers)))
unfolding position_of
at_next row position numbers h = ap (position_of row) (drop-cons numbers position 0 h)

pub one_passed : (row position : ℕ) (numbers : List ℕ) → position < length numbers → get_or numbers position 0 ≢ row
    → position_of row numbers ≡ later position (position_of row (drop position numbers))
    → position_of row numbers ≡ later (position + 1) (position_of row (drop (position + 1) numbers))
one_passed row position numbers h other e =
    let next : suc position ≡ position + 1 = omega arith in
    e ∙ ap (later position) (at_next row position numbers h
    ∙ ap (λ (b : Bool). cond b (Some 0) (option_map (λ k. k + 1) (position_of row (drop (suc position) numbers)))) (ne_eqb
    (get_or numbers position 0) row other))
    ∙ later_more position (position_of row (drop (suc position) numbers))
    ∙ ap (λ (n : ℕ). later (position + 1) (position_of row (drop n numbers))) next

pub found_at : (row position : ℕ) (numbers : List ℕ) → position < length numbers → get_or numbers position 0 ≡ row
    → position_of row numbers ≡ later position (position_of row (drop position numbers)) → Some position ≡ position_of row numbers
found_at row position numbers h here e =
    sym (e ∙ ap (later position) (at_next row position numbers h
    ∙ ap (λ (b : Bool). cond b (Some 0) (option_map (λ k. k + 1) (position_of row (drop (suc position) numbers)))) (eq-eqb
    (get_or numbers position 0) row here))
    ∙ ap Some (let same : 0 + position ≡ position = omega arith in same))

pub none_found : (row position : ℕ) (numbers : List ℕ) → length numbers ≤ position
    → position_of row numbers ≡ later position (position_of row (drop position numbers)) → None ≡ position_of row numbers
unfolding position_of
none_found row position numbers h e = sym (e
    ∙ ap (λ (z : List ℕ). later position (position_of row z)) (drop_past numbers position h))
  where
    drop_past : (xs : List ℕ) (n : ℕ) → length xs ≤ n → drop n xs ≡ []
    drop_past xs n h = drop_of_length-le xs h

-- numbers that are none of the row's are passed
passed : (row count : ℕ) (numbers : List ℕ) → count ≤ length numbers → ((j : ℕ) → j < count → get_or numbers j 0 ≢ row)
    → position_of row numbers ≡ later count (position_of row (drop count numbers))
passed row zero numbers h others = none_passed row numbers
passed row (suc count) numbers h others =
    let next : count + 1 ≡ suc count = omega arith in
    subst (λ (n : ℕ). position_of row numbers ≡ later n (position_of row (drop n numbers))) next
    (one_passed row count numbers (omega arith) (others count (omega arith)) (passed row count numbers (omega arith) (λ j k. others j (omega arith))))

-- numbers that ascend: a row has one position, wherever it is found
pub found_in_order : (row position : ℕ) (numbers : List ℕ) → Ascends numbers → position < length numbers → get_or numbers position 0 ≡ row
    → Some position ≡ position_of row numbers
found_in_order row position numbers up h here =
    found_at row position numbers h here
    (passed row position numbers (omega arith) (λ j k e. absurd (omega (arith, up j position 0 k h, e, here))))

-- or none
pub none_in_order : (row : ℕ) (numbers : List ℕ) → ((k : ℕ) → k < length numbers → get_or numbers k 0 ≢ row) → None ≡ position_of row numbers
none_in_order row numbers others =
    none_found row (length numbers) numbers (omega arith) (passed row (length numbers) numbers (omega arith) others)

rising : (numbers : List ℕ) → Ascends numbers → (i j : ℕ) → i ≤ j → j < length numbers → get_or numbers i 0 ≤ get_or numbers j 0
rising numbers up i j h k = elim (cases_lt i j) [
  | inl before ↦ omega (arith, up i j 0 before k)
  | inr same ↦ (let e : i ≡ j = omega arith in omega (arith, ap (λ (n : ℕ). get_or numbers n 0) e))
]

-- what a search through them gives
pub searched_in_order : (row : ℕ) (numbers : List ℕ) (found : Result ℕ ℕ) → Ascends numbers
    → IsBinarySearchResult (λ y. nat_cmp y row) numbers found → MatchResult found (λ i. Some i ≡ position_of row numbers) (λ i. None ≡ position_of row numbers)
searched_in_order row numbers (Ok i) up h =
    let at = searched numbers row (Ok i) h (rising numbers up) in found_in_order row i numbers up at.0 at.1
searched_in_order row numbers (Err i) up h =
    let at = searched numbers row (Err i) h (rising numbers up) in
    none_in_order row numbers (λ k l e. elim (cases_lt k i) [
      | inl before ↦ absurd (omega (arith, at.1 k before, e))
      | inr after ↦ absurd (omega (arith, at.2 k after l, e))
    ])
