-- The colour that the rows of a table have for a name.
use Rattle.std.proofs.Common.{◌≡◌, ◌↔◌, ◌<◌, ◌+◌, ◌∙◌, ℕ, Bool, true, false, Option, Some, List, ◌∷◌, length, get_or, drop, map, Bor, refl, sym}
use Rattle.std.specs.Bool.{one_answer}
use Rattle.std.specs.Char.{to_ascii_lowercase}
use Rattle.std.specs.Str.{str_eq_ignore_ascii_case}
use Rattle.std.proofs.lemmas.List.{at_drop_more}
use Rattle.std.proofs.lemmas.Slice.Eq.{bytes_eq-Decides}
use Rattle.plot_page.specs.declared.colour.Colour.{Colour}
use Rattle.plot_settings.specs.Colours.{rgb}
use Rattle.pen_list.specs.Colours.{named_in}

abbrev pub Row : Type 0
Row = Bor (List ℕ) × (ℕ × ℕ × ℕ)

abbrev pub named_by : List Row → List ℕ → Option Colour
named_by rows text = named_in (map (λ row. (row.0.now, rgb row.1.0 row.1.1 row.1.2)) rows) text

same_test : (name text : List ℕ) (result : Bool) → (result ≡ true) ↔ (map to_ascii_lowercase name ≡ map to_ascii_lowercase text)
    → str_eq_ignore_ascii_case name text ≡ result
same_test name text result h = one_answer _ _ (bytes_eq-Decides (map to_ascii_lowercase name) (map to_ascii_lowercase text)) h

module _ (rows : List Row) (at : ℕ) (blank : Row) (text : List ℕ) (inside : at < length rows) where
  left : named_by (drop at rows) text ≡ named_by (get_or rows at blank ∷ drop (at + 1) rows) text
  left = at_drop_more (λ (its : List Row). named_by its text) rows at blank inside

  pub named_here : (result : Bool)
      → (result ≡ true) ↔ (map to_ascii_lowercase (get_or rows at blank).0.now ≡ map to_ascii_lowercase text) → result ≡ true
      → named_by (drop at rows) text
      ≡ Some (rgb (get_or rows at blank).1.0 (get_or rows at blank).1.1 (get_or rows at blank).1.2)
  named_here result test is = left ∙ rw (same_test (get_or rows at blank).0.now text result test, is) refl

  pub named_later : (result : Bool)
      → (result ≡ true) ↔ (map to_ascii_lowercase (get_or rows at blank).0.now ≡ map to_ascii_lowercase text) → result ≡ false
      → named_by (drop (at + 1) rows) text ≡ named_by (drop at rows) text
  named_later result test other = sym (left ∙ rw (same_test (get_or rows at blank).0.now text result test, other) refl)
