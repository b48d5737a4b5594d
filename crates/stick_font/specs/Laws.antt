-- What holds of the whole font, byte by byte.
use Rattle.std.specs.Prelude.{◌≡◌, ℕ, ◌-◌, ◌^◌, ◌<◌, ◌≤◌, Bool, ◌&&◌, IsTrue, length, nat_lt}
use Rattle.std.specs.List.{list_all}
use Rattle.stick_font.specs.declared.grid.GridStroke.{GridStroke}
use Rattle.stick_font.specs.Glyphs.{is_byte_between, glyph_strokes}

-- both ends lie on the grid
abbrev pub is_on_grid : GridStroke → Bool
is_on_grid s =
    is_byte_between 0 4 s.ax && (is_byte_between 0 6 s.ay && (is_byte_between 0 4 s.bx && is_byte_between 0 6 s.by))

-- no stroke leaves the grid
abbrev pub StrokesAreOnTheGrid : Type 0
StrokesAreOnTheGrid = (byte : ℕ) → byte < 2 ^ 8 → IsTrue (list_all is_on_grid (glyph_strokes byte))

-- the bytes 33 to 126 have strokes, and no other byte has any
abbrev pub PrintingCharactersHaveStrokes : Type 0
PrintingCharactersHaveStrokes =
    (byte : ℕ) → byte < 2 ^ 8 → nat_lt 0 (length (glyph_strokes byte)) ≡ is_byte_between 33 126 byte

-- no character has more than 15 strokes
abbrev pub CharactersHaveFewStrokes : Type 0
CharactersHaveFewStrokes = (byte : ℕ) → byte < 2 ^ 8 → length (glyph_strokes byte) ≤ 15

-- a small letter has the strokes of its capital
abbrev pub SmallLettersAreDrawnAsCapitals : Type 0
SmallLettersAreDrawnAsCapitals = (byte : ℕ) → 97 ≤ byte → byte ≤ 122 → glyph_strokes byte ≡ glyph_strokes (byte - 32)
