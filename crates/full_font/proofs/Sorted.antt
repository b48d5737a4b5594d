-- Rows that are sorted by their code points.
use Rattle.std.proofs.Common.{◌≡◌, ℕ, zero, suc, ◌<◌, ◌≤◌, List, [], ◌∷◌, map, length, get_or, true, false, nat_eq, Ok, Err, refl, sym, ap, ◌∙◌, arith, Bor, inl, inr, ◌≢◌}
use Rattle.std.specs.List.Sorted.{IsBinarySearchResult, IsNonDecreasingBy}
use Rattle.std.specs.Ordering.{nat_cmp, ordering_index}
use Rattle.std.proofs.lemmas.Bool.Decides.{nat_tests}
use Rattle.std.proofs.lemmas.Bool.{cases_lt}
use Rattle.std.proofs.lemmas.Cmp.{ranked}
use Rattle.std.proofs.lemmas.List.Sorted.{IsNonDecreasingBy-from_default}
use Rattle.full_font.specs.Glyphs.{Row, box, lines_in}
use Rattle.full_font.specs.Rows.{rows_of, lines_at, code_points, is_rising}

abbrev pub Rows : Type 0
Rows = List (ℕ × Bor (List (Bor (List ℕ))))

-- what a slice of no rows reads as
abbrev pub none : ℕ × Bor (List (Bor (List ℕ)))
none = (0, record { ref_ptr = (0, 0); now = [] })

-- a row that is read from a table is the row of the table's texts
pub lines-get_or : (rows : Rows) (i : ℕ) → map (λ line. line.now) (get_or rows i none).1.now ≡ lines_at (rows_of rows) i
lines-get_or [] i = refl
lines-get_or (row ∷ rows) zero = refl
lines-get_or (row ∷ rows) (suc i) = lines-get_or rows i

-- the code point of a row
code-get_or : (rows : Rows) (i : ℕ) → (get_or rows i none).0 ≡ get_or (code_points (rows_of rows)) i 0
code-get_or [] i = refl
code-get_or (row ∷ rows) zero = refl
code-get_or (row ∷ rows) (suc i) = code-get_or rows i

length-code_points : (rows : Rows) → length (code_points (rows_of rows)) ≡ length rows
length-code_points [] = refl
length-code_points (row ∷ rows) = ap suc (length-code_points rows)

abbrev IsSorted : List Row → Type 0
IsSorted rows = is_rising (code_points rows) ≡ true

rest_sorted : (a b : ℕ) (rest : List ℕ) → is_rising (a ∷ b ∷ rest) ≡ true → is_rising (b ∷ rest) ≡ true
rest_sorted a b rest h = grind (arith, nat_tests)

tail_sorted : (a : ℕ) (ns : List ℕ) → is_rising (a ∷ ns) ≡ true → is_rising ns ≡ true
tail_sorted a [] h = refl
tail_sorted a (b ∷ rest) h = rest_sorted a b rest h

first_below : (a b : ℕ) (rest : List ℕ) → is_rising (a ∷ b ∷ rest) ≡ true → a < b
first_below a b rest h = grind (arith, nat_tests)

-- the first number is below each later one
head_below : (a : ℕ) (ns : List ℕ) (i : ℕ) → is_rising (a ∷ ns) ≡ true → i < length ns → a < get_or ns i 0
head_below a [] i h within = absurd (omega arith)
head_below a (b ∷ rest) zero h within = first_below a b rest h
head_below a (b ∷ rest) (suc i) h within =
    let later = head_below b rest i (rest_sorted a b rest h) (omega arith) in
    let first = first_below a b rest h in
    omega arith

-- a later number is above an earlier one
pub rises : (ns : List ℕ) (i j : ℕ) → is_rising ns ≡ true → i < j → j < length ns → get_or ns i 0 < get_or ns j 0
rises [] i j h less within = absurd (omega arith)
rises (a ∷ ns) i zero h less within = absurd (omega arith)
rises (a ∷ ns) zero (suc j) h less within = head_below a ns j h (omega arith)
rises (a ∷ ns) (suc i) (suc j) h less within = rises ns i j (tail_sorted a ns h) (omega arith) (omega arith)

-- the row of a code point is the one that is found
pub lines_in-at : (rows : List Row) (code_point i : ℕ) → IsSorted rows → i < length (code_points rows) → get_or (code_points rows) i 0 ≡ code_point → lines_in rows code_point ≡ lines_at rows i
lines_in-at [] n i sorted within here = absurd (omega arith)
lines_in-at (row ∷ rows) n zero sorted within here =
    let same : nat_eq row.0 n ≡ true = grind (arith, nat_tests) in
    rw same refl
lines_in-at (row ∷ rows) n (suc i) sorted within here =
    let below = head_below row.0 (code_points rows) i sorted (omega arith) in
    let other : nat_eq row.0 n ≡ false = grind (arith, nat_tests) in
    rw other (lines_in-at rows n i (tail_sorted row.0 (code_points rows) sorted) (omega arith) here)

-- a code point that no row has is drawn as a box
pub lines_in-none : (rows : List Row) (code_point : ℕ) → ((i : ℕ) → i < length (code_points rows) → get_or (code_points rows) i 0 ≢ code_point) → lines_in rows code_point ≡ box
lines_in-none [] n other = refl
lines_in-none (row ∷ rows) n other =
    let first = other 0 (omega arith) in
    let differs : nat_eq row.0 n ≡ false = grind (arith, nat_tests) in
    rw differs (lines_in-none rows n (λ i within. other (suc i) (omega arith)))

module _ (rows : Rows) (sorted : IsSorted (rows_of rows)) (n : ℕ) where
  -- the comparisons with n rise along the rows, as a binary search asks
  comparisons_rise : IsNonDecreasingBy (λ row. ordering_index (nat_cmp row.0 n)) rows
  comparisons_rise = IsNonDecreasingBy-from_default (λ row. ordering_index (nat_cmp row.0 n)) rows none (λ i j le within.
      let ci = code-get_or rows i in
      let cj = code-get_or rows j in
      let len = length-code_points rows in
      let codes_rise : (get_or rows i none).0 ≤ (get_or rows j none).0 = grind (arith, rises (code_points (rows_of rows)) i j sorted, λ (same : i ≡ j). ap (λ k. (get_or rows k none).0) same) in
      grind (arith, nat_tests))

  -- a binary search by code point that finds a row finds the one of the definition
  pub found : (i : ℕ) → i < length rows → IsBinarySearchResult (λ row. nat_cmp row.0 n) rows (Ok i) → map (λ line. line.now) (get_or rows i none).1.now ≡ lines_in (rows_of rows) n
  found i within equal =
      let here : (get_or rows i none).0 ≡ n = ranked _ n _ (sym (equal none)) in
      let code = code-get_or rows i in
      let len = length-code_points rows in
      lines-get_or rows i ∙ sym (lines_in-at (rows_of rows) n i sorted (omega arith) (sym code ∙ here))

  -- a binary search that finds no row finds that there is none
  pub absent : (i : ℕ) → i ≤ length rows → IsBinarySearchResult (λ row. nat_cmp row.0 n) rows (Err i) → lines_in (rows_of rows) n ≡ box
  absent i within parted = lines_in-none (rows_of rows) n (λ j below same.
      let code = code-get_or rows j in
      let len = length-code_points rows in
      let parts = parted comparisons_rise in
      elim (cases_lt j i) [
        | inl less ↦ (let lower : (get_or rows j none).0 < n = ranked _ n _ (sym (parts.0 j none (omega arith) less)) in omega arith)
        | inr beyond ↦ (let higher : n < (get_or rows j none).0 = ranked _ n _ (sym (parts.1 j none beyond (omega arith))) in omega arith)
      ])
