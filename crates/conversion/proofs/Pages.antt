-- The pages of a document are the sheets of its strokes.
use Rattle.std.proofs.Common.{◌≡◌, ◌∙◌, ◌-◌, ◌≤◌, ◌<◌, ◌++◌, ℕ, Bool, true, false, List, [], ◌∷◌, length, take, drop, min, nat_eq, nat_lt, ap, ap₂, refl, sym, arith}
use Rattle.std.specs.Prelude.{if◌then◌else◌}
use Rattle.std.proofs.lemmas.Bool.Decides.{nat_tests}
use Rattle.std.proofs.lemmas.List.{length-drop, length-take, take_min}
use Rattle.plot_page.specs.Segments.{Segment}
use Rattle.pdf.specs.Documents.{sheets}
use Rattle.stroke_runs.specs.Sheets.{between, sheets_after, sheets_of}
use Rattle.conversion.specs.Vectors.{ends_after, page_ends}

module _ (strokes : List Segment) where
  size : (at end : ℕ) → length (between strokes at end) ≡ min end (length strokes) - at
  size at end = length-drop at (take end strokes) ∙ ap (λ n. n - at) (length-take end strokes)

  none : (at end : ℕ) → nat_lt at (min end (length strokes)) ≡ false → nat_eq (length (between strokes at end)) 0 ≡ true
  none at end over = rw (size at end) (grind (arith, nat_tests))

  some : (at end : ℕ) → nat_lt at (min end (length strokes)) ≡ true → nat_eq (length (between strokes at end)) 0 ≡ false
  some at end more = rw (size at end) (grind (arith, nat_tests))

  -- nothing comes after the last stroke
  past : (ends : List ℕ) (at : ℕ) → length strokes ≤ at → sheets_after strokes at ends ≡ []
  past [] at beyond = refl
  past (end ∷ ends) at beyond = rw (none at end (grind (arith, nat_tests))) (past ends at beyond)

  -- it is the same whether an end beyond the last stroke is kept within
  kept_within : (ends : List ℕ) (end : ℕ) (b : Bool) → nat_lt end (length strokes) ≡ b
      → sheets_after strokes (min end (length strokes)) ends ≡ sheets_after strokes end ends
  kept_within ends end true less =
      let same : min end (length strokes) ≡ end = grind (arith, nat_tests) in
      ap (λ n. sheets_after strokes n ends) same
  kept_within ends end false more =
      past ends (min end (length strokes)) (grind (arith, nat_tests)) ∙ sym (past ends end (grind (arith, nat_tests)))

  pages : (ends : List ℕ) (at : ℕ)
      → sheets strokes at (ends_after (length strokes) at ends) ≡ sheets_after strokes at (ends ++ length strokes ∷ [])
  pages [] at = last (nat_lt at (length strokes)) refl
    where
      last : (b : Bool) → nat_lt at (length strokes) ≡ b
          → sheets strokes at (if b then length strokes ∷ [] else []) ≡ sheets_after strokes at (length strokes ∷ [])
      last true more = rw (some at (length strokes) (grind (arith, nat_tests))) refl
      last false over = rw (none at (length strokes) (grind (arith, nat_tests))) refl
  pages (end ∷ ends) at = next (nat_lt at (min end (length strokes))) refl (pages ends)
    where
      next : (b : Bool) → nat_lt at (min end (length strokes)) ≡ b
          → ((from : ℕ) → sheets strokes from (ends_after (length strokes) from ends) ≡ sheets_after strokes from (ends ++ length strokes ∷ []))
          → sheets strokes at (if b then min end (length strokes) ∷ ends_after (length strokes) (min end (length strokes)) ends else ends_after (length strokes) at ends)
          ≡ sheets_after strokes at (end ∷ (ends ++ length strokes ∷ []))
      next true more others =
          rw (some at end more)
          (ap₂ ◌∷◌ (ap (drop at) (take_min end strokes)) (others (min end (length strokes)) ∙ kept_within (ends ++ length strokes ∷ []) end (nat_lt end (length strokes)) refl))
      next false over others = rw (none at end over) (others at)

pub all_pages : (strokes : List Segment) (ends : List ℕ) → 0 < length strokes
    → sheets strokes 0 (page_ends (length strokes) ends) ≡ sheets_of strokes ends
all_pages strokes ends some =
    let drawn : nat_eq (length strokes) 0 ≡ false = grind (arith, nat_tests) in
    rw drawn (pages strokes ends 0)
