-- What holds of the whole font. The first two laws hold of all code points, also of those that are drawn as a box.
use Rattle.std.specs.Prelude.{◌≡◌, ◌↔◌, ℕ, ℤ, pos, negsuc, ◌<◌, ◌≤◌, List, [], ◌∷◌, Bool, ◌&&◌, ◌||◌, IsTrue, length, map, nat_eq, nat_le, int_le}
use Rattle.std.specs.List.{list_all, list_any}
use Rattle.stick_font.specs.Glyphs as capitals
use Rattle.stick_font.specs.declared.grid.GridStroke.{GridStroke}
use Rattle.full_font.specs.declared.grid.GlyphStroke.{GlyphStroke}
use Rattle.full_font.specs.Glyphs.{font, code_point_strokes}
use Rattle.full_font.specs.Rows.{code_points, is_rising}

-- x is 0 to 4, y is -2 to 8
abbrev pub is_on_grid : ℕ → ℤ → Bool
is_on_grid x y = nat_le x 4 && (int_le (negsuc 1) y && int_le y (pos 8))

-- no stroke leaves the grid
abbrev pub StrokesAreOnTheGrid : Type 0
StrokesAreOnTheGrid =
    (code_point : ℕ)
    → IsTrue (list_all (λ s. is_on_grid s.ax s.ay && is_on_grid s.bx s.by) (code_point_strokes code_point))

-- no character has more than 15 strokes
abbrev pub CharactersHaveFewStrokes : Type 0
CharactersHaveFewStrokes = (code_point : ℕ) → length (code_point_strokes code_point) ≤ 15

-- a stroke of the stick font of ASCII on this font's grid
abbrev pub as_glyph_stroke : GridStroke → GlyphStroke
as_glyph_stroke s = record { ax = s.ax; ay = pos s.ay; bx = s.bx; by = pos s.by }

-- all of ASCII that is printed, but the small letters
abbrev pub is_capital_or_sign : ℕ → Bool
is_capital_or_sign byte = capitals.is_byte_between 32 96 byte || capitals.is_byte_between 123 126 byte

-- the capitals, digits and signs of ASCII have the strokes of the stick font of ASCII
abbrev pub CapitalsAreThoseOfTheStickFont : Type 0
CapitalsAreThoseOfTheStickFont =
    (byte : ℕ)
    → IsTrue (is_capital_or_sign byte)
    → code_point_strokes byte ≡ map as_glyph_stroke (capitals.glyph_strokes byte)

-- the rows are sorted by their code points, of which none is there twice
abbrev pub RowsAreSorted : Type 0
RowsAreSorted = IsTrue (is_rising (code_points font))

-- the code points whose characters look alike: hyphens and dashes; micro sign and mu; middle dot and bullet operator;
-- space and no-break space
abbrev pub look_alikes : List (List ℕ)
look_alikes =
    (0x2d ∷ 0xad ∷ 0x2013 ∷ 0x2014 ∷ []) ∷ (0xb5 ∷ 0x3bc ∷ []) ∷ (0xb7 ∷ 0x2219 ∷ []) ∷ (0x20 ∷ 0xa0 ∷ []) ∷ []

abbrev pub is_in : List ℕ → ℕ → Bool
is_in code_points n = list_any (λ m. nat_eq m n) code_points

-- both are in one group of these
abbrev pub are_look_alikes : ℕ → ℕ → Bool
are_look_alikes a b = list_any (λ group. is_in group a && is_in group b) look_alikes

-- two characters of the font have the same strokes if and only if they are meant to look alike
abbrev pub CharactersDiffer : Type 0
CharactersDiffer =
    (a b : ℕ)
    → IsTrue (is_in (code_points font) a)
    → IsTrue (is_in (code_points font) b)
    → a < b
    → (code_point_strokes a ≡ code_point_strokes b) ↔ IsTrue (are_look_alikes a b)
