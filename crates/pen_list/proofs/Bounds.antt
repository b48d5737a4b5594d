-- The bounds of ranges.
use Rattle.std.proofs.Common.{◌≡◌, ◌==◌, ◌+◌, ◌-◌, ℕ, Bool, true, false, nat_le, Some, None, List, [], ◌∷◌, length, take, drop, arith, refl}
use Rattle.std.proofs.lemmas.Bool.{and_left, and_parts, and_right}
use Rattle.std.proofs.lemmas.Bool.Decides.{nat_tests}
use Rattle.std.proofs.lemmas.List.{take_rest}
use Rattle.std.specs.Char.{is_ascii_digit}
use Rattle.std.specs.List.{list_all, position}
use Rattle.pen_list.proofs.Cuts.{Cut, whole, parted, is_cut, cut_first, uncut_without}
use Rattle.pen_list.specs.Lists.{are_bounds, bounds, hyphen, is_between, is_range, is_pen, range_has, number}

digit_is_no_hyphen : (byte : ℕ) → is_ascii_digit byte ≡ true → (byte == hyphen) ≡ false
digit_is_no_hyphen byte digit = grind (arith, nat_tests)

digits_are_uncut : (text : List ℕ) → list_all is_ascii_digit text ≡ true → bounds text ≡ text ∷ []
digits_are_uncut [] digits = refl
digits_are_uncut (x ∷ xs) digits =
    let p = and_parts (is_ascii_digit x) (list_all is_ascii_digit xs) digits in
    let no : (x == hyphen) ≡ false = digit_is_no_hyphen x p.0 in
    let rest : bounds xs ≡ xs ∷ [] = digits_are_uncut xs p.1 in
    rw (no, rest) refl

pub pen_is_uncut : (text : List ℕ) → is_pen text ≡ true → bounds text ≡ text ∷ []
pen_is_uncut text pen = digits_are_uncut text (and_parts (list_all is_ascii_digit text) _ pen).0

-- two bounds
both_pens : (first last : List ℕ) → is_pen first ≡ true → is_pen last ≡ true
    → are_bounds (first ∷ bounds last) ≡ nat_le (number first) (number last)
both_pens first last a b =
    let e : bounds last ≡ last ∷ [] = pen_is_uncut last b in
    rw (e, a, b) refl

first_no_pen : (first : List ℕ) (others : List (List ℕ)) → is_pen first ≡ false → are_bounds (first ∷ others) ≡ false
first_no_pen first [] a = a
first_no_pen first (last ∷ []) a = rw a refl
first_no_pen first (second ∷ third ∷ others) a = refl

last_no_pen : (first last : List ℕ) (parts : List (List ℕ)) → Cut last parts → is_pen last ≡ false → are_bounds (first ∷ parts) ≡ false
last_no_pen first last _ whole b = and_right (is_pen first) _ (and_left (is_pen last) _ b)
last_no_pen first last _ (parted second third others) b = refl

one_number : (n pen : ℕ) → (n == pen) ≡ is_between n pen n
one_number n pen = grind (arith, nat_tests)

abbrev pub is_hyphen : ℕ → Bool
is_hyphen byte = byte == hyphen

-- a range without a hyphen
module _ (range : List ℕ) (none : position is_hyphen range ≡ None) where
  uncut_range : bounds range ≡ range ∷ []
  uncut_range = uncut_without is_hyphen range none

  pub alone : is_range range ≡ is_pen range
  alone = rw uncut_range refl

  pub alone_has : (pen : ℕ) → range_has range pen ≡ is_between (number range) pen (number range)
  alone_has pen = rw uncut_range (one_number (number range) pen)

-- what is before a byte, and after it
abbrev pub before : List ℕ → ℕ → List ℕ
before text at = take at text

abbrev pub after : List ℕ → ℕ → List ℕ
after text at = take (length text - (at + 1)) (drop (at + 1) text)

-- a range whose first hyphen is there
module _ (range : List ℕ) (at : ℕ) (some : position is_hyphen range ≡ Some at) where
  cut : bounds range ≡ before range at ∷ bounds (after range at)
  cut = rw (take_rest range (at + 1)) (cut_first is_hyphen range at some)

  pub wrong_first : is_pen (before range at) ≡ false → is_range range ≡ false
  wrong_first a = rw cut (first_no_pen (before range at) (bounds (after range at)) a)

  pub wrong_last : is_pen (after range at) ≡ false → is_range range ≡ false
  wrong_last b = rw cut (last_no_pen (before range at) (after range at) _ (is_cut is_hyphen (after range at)) b)

  pub pair : is_pen (before range at) ≡ true → is_pen (after range at) ≡ true
      → is_range range ≡ nat_le (number (before range at)) (number (after range at))
  pair a b = rw cut (both_pens (before range at) (after range at) a b)

  pub pair_has : is_pen (after range at) ≡ true → (pen : ℕ)
      → range_has range pen ≡ is_between (number (before range at)) pen (number (after range at))
  pair_has b pen =
      let e : bounds (after range at) ≡ after range at ∷ [] = pen_is_uncut (after range at) b in
      rw (cut, e) refl
