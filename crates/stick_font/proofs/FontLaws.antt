-- Facts of each byte, found by computing all of them.
use Rattle.std.proofs.Common.{◌≡◌, ◌<◌, ◌≤◌, ◌+◌, ◌-◌, ℕ, Bool, true, map, length, nat_lt, nat_le, get_or, refl, sym, ap, ◌∙◌, arith}
use Rattle.std.proofs.lemmas.List.FromFn.{get_or-map-range_with_len}
use Rattle.std.proofs.lemmas.Bool.Decides.{nat_tests}
use Rattle.std.specs.List.{list_all, range_with_len}
use Rattle.stick_font.specs.Glyphs.{glyph_strokes, is_byte_between, first_rows, last_rows}
use Rattle.stick_font.specs.Laws.{is_on_grid}

-- two functions that agree on n numbers, from a and from b on, agree on each of them
each_of : {X : Type 0} (f g : ℕ → X) (a b n i j k : ℕ) → map f (range_with_len a n) ≡ map g (range_with_len b n) → i < n → a + i ≡ j → b + i ≡ k → f j ≡ g k
each_of f g a b n i j k same h to_j to_k =
    sym (get_or-map-range_with_len f a n i j (f 0) h to_j)
    ∙ ap (λ t. get_or t i (f 0)) same
    ∙ get_or-map-range_with_len g b n i k (f 0) h to_k

abbrev grid_test : ℕ → Bool
grid_test byte = list_all is_on_grid (glyph_strokes byte)

all_on_grid : map grid_test (range_with_len 0 256) ≡ map (λ _. true) (range_with_len 0 256)
unfolding first_rows last_rows
all_on_grid = refl

pub on_grid : (byte : ℕ) → byte < 256 → list_all is_on_grid (glyph_strokes byte) ≡ true
on_grid byte h = each_of grid_test (λ _. true) 0 0 256 byte byte byte all_on_grid h (omega arith) (omega arith)

abbrev has_strokes : ℕ → Bool
has_strokes byte = nat_lt 0 (length (glyph_strokes byte))

all_printing : map has_strokes (range_with_len 0 256) ≡ map (is_byte_between 33 126) (range_with_len 0 256)
unfolding first_rows last_rows
all_printing = refl

pub printing : (byte : ℕ) → byte < 256 → nat_lt 0 (length (glyph_strokes byte)) ≡ is_byte_between 33 126 byte
printing byte h = each_of has_strokes (is_byte_between 33 126) 0 0 256 byte byte byte all_printing h (omega arith) (omega arith)

abbrev few_test : ℕ → Bool
few_test byte = nat_le (length (glyph_strokes byte)) 15

all_few : map few_test (range_with_len 0 256) ≡ map (λ _. true) (range_with_len 0 256)
unfolding first_rows last_rows
all_few = refl

pub few : (byte : ℕ) → byte < 256 → length (glyph_strokes byte) ≤ 15
few byte h =
    let t : few_test byte ≡ true = each_of few_test (λ _. true) 0 0 256 byte byte byte all_few h (omega arith) (omega arith) in
    grind (arith, nat_tests)

all_small : map glyph_strokes (range_with_len 97 26) ≡ map glyph_strokes (range_with_len 65 26)
unfolding first_rows last_rows
all_small = refl

pub small_as_capital : (byte : ℕ) → 97 ≤ byte → byte ≤ 122 → glyph_strokes byte ≡ glyph_strokes (byte - 32)
small_as_capital byte low high =
    let within : byte - 97 < 26 = omega arith in
    each_of glyph_strokes glyph_strokes 97 65 26 (byte - 97) byte (byte - 32) all_small within (omega arith) (omega arith)
