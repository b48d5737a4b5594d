-- The ranges of what is left of a text.
use Rattle.std.proofs.Common.{◌≡◌, ◌<◌, ◌≤◌, ◌+◌, ◌-◌, ◌==◌, ◌||◌, ℕ, Bool, true, false, List, [], ◌∷◌, length, get_or, take, drop}
use Rattle.std.proofs.Common.{below_more, arith, refl}
use Rattle.std.proofs.Math.Bool.{and-true, or-false}
use Rattle.std.proofs.Math.ListN.{length-drop}
use Rattle.std.proofs.lemmas.Bool.{and_left, eq-eqb, eqb-true, false_from_ne_true}
use Rattle.std.proofs.lemmas.List.{drop-drop, get_or-drop, take_rest}
use Rattle.pen_list.proofs.Cuts.{cut_at, uncut}
use Rattle.pen_list.specs.Lists.{are_ranges, comma, is_range, range_has, ranges, ranges_have}

abbrev pub separates : ℕ → Bool
separates byte = byte == comma

-- no byte from one place to before another is a comma
abbrev pub NoComma : List ℕ → ℕ → ℕ → Type 0
NoComma text from at = (k : ℕ) → from ≤ k → k < at → separates (get_or text k 0) ≡ false

no_comma_left : (text : List ℕ) (from at : ℕ) → NoComma text from at → (k : ℕ) → k < at - from
    → separates (get_or (drop from text) k 0) ≡ false
no_comma_left text from at no_comma k below = rw (get_or-drop from text k 0) (no_comma (from + k) (omega arith) (omega arith))

pub no_comma_more : (text : List ℕ) (from at : ℕ) → NoComma text from at → (get_or text at 0 ≡ 44 → ⊥) → NoComma text from (at + 1)
no_comma_more text from at no_comma other k a b =
    below_more (λ k. from ≤ k → separates (get_or text k 0) ≡ false) at (λ k below from_k. no_comma k from_k below)
    (λ _. false_from_ne_true (separates (get_or text at 0)) (λ h. other (eqb-true _ _ h))) k b a

-- what is from one place to before another
abbrev pub part : List ℕ → ℕ → ℕ → List ℕ
part text from at = take (at - from) (drop from text)

-- a comma follows the next range
pub record EndsAt (text : List ℕ) (from at : ℕ) : Type 0 where
  pub begun : from ≤ at
  pub inside : at < length text
  pub no_comma : NoComma text from at
  pub comma_here : get_or text at 0 ≡ 44

module _ (text : List ℕ) (from at : ℕ) (h : EndsAt text from at) where
  first_range : ranges (drop from text) ≡ part text from at ∷ ranges (drop (at + 1) text)
  first_range =
      let within : at - from < length (drop from text) = omega (arith, length-drop from text) in
      let same : from + (at - from) ≡ at = omega arith in
      let here : separates (get_or text at 0) ≡ true = eq-eqb _ _ h.comma_here in
      let there : separates (get_or (drop from text) (at - from) 0) ≡ true = rw (get_or-drop from text (at - from) 0, same) here in
      let past : from + (at - from + 1) ≡ at + 1 = omega arith in
      let next : drop (at - from + 1) (drop from text) ≡ drop (at + 1) text = rw (drop-drop (at - from + 1) from text, past) refl in
      rw next at (cut_at separates (drop from text) (at - from) within (no_comma_left text from at h.no_comma) there)

  pub wrong_range : is_range (part text from at) ≡ false → are_ranges (drop from text) ≡ false
  wrong_range wrong = rw first_range (and_left (is_range (part text from at)) (are_ranges (drop (at + 1) text)) wrong)

  pub good_range : is_range (part text from at) ≡ true → are_ranges (drop (at + 1) text) ≡ are_ranges (drop from text)
  good_range good = rw (first_range, good) refl

  pub listed_by_range : (pen : ℕ)
      → ranges_have (drop from text) pen ≡ (range_has (part text from at) pen || ranges_have (drop (at + 1) text) pen)
  listed_by_range pen = rw first_range refl

-- the last range
module _ (text : List ℕ) (from : ℕ) (no_comma : NoComma text from (length text)) where
  last_range : ranges (drop from text) ≡ part text from (length text) ∷ []
  last_range =
      let none = λ (k : ℕ) (below : k < length (drop from text)).
      no_comma_left text from (length text) no_comma k (omega (arith, length-drop from text)) in
      rw (take_rest text from) (uncut separates (drop from text) none)

  pub last_decides : are_ranges (drop from text) ≡ is_range (part text from (length text))
  last_decides = rw last_range (and-true (is_range (part text from (length text))))

  pub listed_by_last : (pen : ℕ) → ranges_have (drop from text) pen ≡ range_has (part text from (length text)) pen
  listed_by_last pen = rw last_range (or-false (range_has (part text from (length text)) pen))
