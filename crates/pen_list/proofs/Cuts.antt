-- Lists cut at separators.
use Rattle.std.proofs.Common.{◌≡◌, ◌<◌, ◌+◌, ℕ, Bool, true, false, Some, None, List, [], ◌∷◌, length, get_or, take, drop, arith, cond}
use Rattle.std.proofs.lemmas.Grind.{common_steps}
use Rattle.std.proofs.lemmas.List.Elements.{All-from_get_or}
use Rattle.std.proofs.lemmas.List.Quantifiers.{position-Some}
use Rattle.std.proofs.lemmas.List.Splits.{slice_split_first, slice_split_none}
use Rattle.std.proofs.lemmas.List.Sums.{fails_before_first, position_or_len_is}
use Rattle.std.specs.List.{onto_first, position, position_or_len, slice_split}

module _ (separates : ℕ → Bool) (text : List ℕ) where
  -- the first part ends at the first separator
  pub cut_at : (at : ℕ) → at < length text → ((k : ℕ) → k < at → separates (get_or text k 0) ≡ false)
      → separates (get_or text at 0) ≡ true → slice_split separates text ≡ take at text ∷ slice_split separates (drop (at + 1) text)
  cut_at at inside before here =
      let e : position_or_len separates text ≡ at = position_or_len_is separates text at 0 (omega arith) before (λ _. here) in
      let h : position_or_len separates text < length text = rw e inside in
      rw e at (slice_split_first separates text 0 h)

  pub cut_first : (at : ℕ) → position separates text ≡ Some at
      → slice_split separates text ≡ take at text ∷ slice_split separates (drop (at + 1) text)
  cut_first at e =
      let h = position-Some separates text at 0 e in
      cut_at at h.0 h.2 h.1

  -- without a separator the text is the one part
  pub uncut : ((k : ℕ) → k < length text → separates (get_or text k 0) ≡ false) → slice_split separates text ≡ text ∷ []
  uncut none = slice_split_none separates text (All-from_get_or (λ (x : ℕ). separates x ≡ false) text 0 none)

  pub uncut_without : position separates text ≡ None → slice_split separates text ≡ text ∷ []
  uncut_without e = uncut (λ k below. grind (arith, common_steps, fails_before_first separates text k 0))

-- a list of parts that is the text alone, or that has two parts or more
pub data Cut (text : List ℕ) : List (List ℕ) → Type 0 where
  whole : Cut text (text ∷ [])
  parted : (first second : List ℕ) (others : List (List ℕ)) → Cut text (first ∷ second ∷ others)

after_separator : (x : ℕ) (xs : List ℕ) (parts : List (List ℕ)) → Cut xs parts → Cut (x ∷ xs) ([] ∷ parts)
after_separator x xs _ whole = parted [] xs []
after_separator x xs _ (parted first second others) = parted [] first (second ∷ others)

after_another : (x : ℕ) (xs : List ℕ) (parts : List (List ℕ)) → Cut xs parts → Cut (x ∷ xs) (onto_first x parts)
after_another x xs _ whole = whole
after_another x xs _ (parted first second others) = parted (x ∷ first) second others

by_test : (x : ℕ) (xs : List ℕ) (parts : List (List ℕ)) (separates : Bool) → Cut xs parts
    → Cut (x ∷ xs) (cond separates ([] ∷ parts) (onto_first x parts))
by_test x xs parts true cut = after_separator x xs parts cut
by_test x xs parts false cut = after_another x xs parts cut

pub is_cut : (separates : ℕ → Bool) (text : List ℕ) → Cut text (slice_split separates text)
is_cut separates [] = whole
is_cut separates (x ∷ xs) = by_test x xs (slice_split separates xs) (separates x) (is_cut separates xs)
