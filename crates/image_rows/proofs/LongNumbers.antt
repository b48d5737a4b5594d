-- Numbers of which more follows.
use Rattle.std.proofs.Common.{◌≡◌, ◌≢◌, ℕ, ◌+◌, ◌<◌, ◌≤◌, List, length, drop, get_or, Some, None, ap, ◌∙◌, arith}
use Rattle.std.proofs.lemmas.List.{drop_more, drop_all}
use Rattle.image_rows.specs.Changes.{further}

-- one byte more is added
pub further_more : (n at : ℕ) (input : List ℕ) → at < length input → get_or input at 0 ≡ 255 → further n (drop at input) ≡ further (n + get_or input at 0) (drop (at + 1) input)
unfolding further
further_more n at input within e = ap (further n) (drop_more input at 0 within) ∙ grind arith

-- a byte that is not 255 is the last
pub further_end : (n at : ℕ) (input : List ℕ) → at < length input → get_or input at 0 ≢ 255 → further n (drop at input) ≡ Some (n + get_or input at 0, drop (at + 1) input)
unfolding further
further_end n at input within e = ap (further n) (drop_more input at 0 within) ∙ grind arith

-- there is none
pub further_none : (n at : ℕ) (input : List ℕ) → length input ≤ at → further n (drop at input) ≡ None
unfolding further
further_none n at input past = ap (further n) (drop_all at input past)
