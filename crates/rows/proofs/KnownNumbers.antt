-- Numbers of colours that are known.
use Rattle.std.proofs.Common.{◌≡◌, ℕ, suc, ◌<◌, ◌||◌, Bool, true, false, cond, List, [], ◌∷◌, ◌++◌, length, get_or, nat_lt, refl, sym, ap, ◌∙◌, arith}
use Rattle.std.specs.List.{list_any}
use Rattle.std.specs.Str.{bytes_eq}
use Rattle.std.proofs.lemmas.Bool.{lt-ltb}
use Rattle.std.proofs.lemmas.List.Folds.{list_any-append}
use Rattle.rows.specs.Palettes.{with_colour}
use Rattle.rows.specs.PixelRows.{number_in, place_of}
use Rattle.rows.specs.Known.{AreKnown, HasNumber}
use Rattle.rows.specs.declared.known.Known.{Known}

-- the first colour has number 0
pub first_number : (palette : List (List ℕ)) (colour : List ℕ) → bytes_eq colour colour ≡ true → 0 < length palette → get_or palette 0 [] ≡ colour → HasNumber palette colour 0
unfolding place_of
first_number [] colour same some is = absurd (omega (arith, some))
first_number (c ∷ palette) colour same some is =
    let test : bytes_eq colour c ≡ true = ap (bytes_eq colour) is ∙ same in
    record {
      found = ap (λ (b : Bool). b || list_any (bytes_eq colour) palette) test;
      place = ap (λ (b : Bool). cond b 0 (suc (place_of palette colour))) test;
    }

-- equal colours have equal numbers
pub like : (palette : List (List ℕ)) (colour other : List ℕ) (number number' : ℕ) → other ≡ colour → number' ≡ number → HasNumber palette colour number → HasNumber palette other number'
like palette colour other number number' same is has = record {
  found = ap (λ (z : List ℕ). list_any (bytes_eq z) palette) same ∙ has.found;
  place = ap (place_of palette) same ∙ has.place ∙ sym is;
}

-- a colour that is there is within the palette
found_within : (palette : List (List ℕ)) (colour : List ℕ) → list_any (bytes_eq colour) palette ≡ true → place_of palette colour < length palette
unfolding place_of
found_within [] colour found = absurd (cc)
found_within (c ∷ palette) colour found =
    elim (bytes_eq colour c) as (λ b. (b || list_any (bytes_eq colour) palette) ≡ true → cond b 0 (suc (place_of palette colour)) < suc (length palette)) [
      | true ↦ λ _. omega arith
      | false ↦ λ rest. omega (arith, found_within palette colour rest)
    ] found

pub number_is : (palette : List (List ℕ)) (colour : List ℕ) (number : ℕ) → HasNumber palette colour number → number ≡ number_in palette colour
number_is palette colour number has =
    let within = found_within palette colour has.found in
    let test : nat_lt (place_of palette colour) (length palette) ≡ true = lt-ltb _ _ within in
    sym (ap (λ (b : Bool). cond b (place_of palette colour) 0) test ∙ has.place)

-- a colour stays where it is when others come after it
stays : (palette more : List (List ℕ)) (colour : List ℕ) → list_any (bytes_eq colour) palette ≡ true → place_of (palette ++ more) colour ≡ place_of palette colour
unfolding place_of
stays [] more colour found = absurd (cc)
stays (c ∷ palette) more colour found =
    elim (bytes_eq colour c) as (λ b. (b || list_any (bytes_eq colour) palette) ≡ true → cond b 0 (suc (place_of (palette ++ more) colour)) ≡ cond b 0 (suc (place_of palette colour))) [
      | true ↦ λ _. refl
      | false ↦ λ rest. ap suc (stays palette more colour rest)
    ] found

number_stays : (palette more : List (List ℕ)) (colour : List ℕ) (number : ℕ) → HasNumber palette colour number → HasNumber (palette ++ more) colour number
number_stays palette more colour number has = record {
  found = list_any-append (bytes_eq colour) palette more ∙ ap (λ (b : Bool). b || list_any (bytes_eq colour) more) has.found;
  place = stays palette more colour has.found ∙ has.place;
}

-- what is known stays so when a colour is added
pub known_after : (palette : List (List ℕ)) (colour : List ℕ) (known : Known) → AreKnown palette known → AreKnown (with_colour palette colour) known
known_after palette colour known are = elim (list_any (bytes_eq colour) palette) as (λ b. AreKnown (cond b palette (palette ++ colour ∷ [])) known) [
  | true ↦ are
  | false ↦ record {
    last = number_stays palette (colour ∷ []) _ _ are.last;
    others = λ k lt. number_stays palette (colour ∷ []) _ _ (are.others k lt);
  }
]

-- a colour that was not there is the last
last_is : (palette : List (List ℕ)) (colour : List ℕ) → bytes_eq colour colour ≡ true → list_any (bytes_eq colour) palette ≡ false → place_of (palette ++ colour ∷ []) colour ≡ length palette
unfolding place_of
last_is [] colour same none = ap (λ (b : Bool). cond b 0 1) same
last_is (c ∷ palette) colour same none =
    elim (bytes_eq colour c) as (λ b. (b || list_any (bytes_eq colour) palette) ≡ false → cond b 0 (suc (place_of (palette ++ colour ∷ []) colour)) ≡ suc (length palette)) [
      | true ↦ λ absent. absurd (cc)
      | false ↦ λ absent. ap suc (last_is palette colour same absent)
    ] none

pub last_number : (palette : List (List ℕ)) (colour : List ℕ) → bytes_eq colour colour ≡ true → list_any (bytes_eq colour) palette ≡ false → HasNumber (palette ++ colour ∷ []) colour (length palette)
last_number palette colour same none = record {
  found = list_any-append (bytes_eq colour) palette (colour ∷ []) ∙ ap (λ (b : Bool). b || list_any (bytes_eq colour) (colour ∷ [])) none ∙ ap (λ (b : Bool). b || false) same;
  place = last_is palette colour same none;
}
