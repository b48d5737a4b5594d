-- The strokes of some characters: theorems that compute.
use Rattle.std.proofs.Common.{◌≡◌, ℕ, [], ◌∷◌, None, Some, slice_get, refl}
use Rattle.std.specs.Prelude.{codes}
use Rattle.exact.proofs.Tables.{Agree, Table}
use Rattle.stick_font.specs.Glyphs.{column_width, polyline_strokes, glyph_strokes, first_rows, last_rows}
use Rattle.stick_font.specs.declared.grid.GridStroke.{GridStroke}

abbrev from_to : ℕ → ℕ → ℕ → ℕ → GridStroke
from_to ax ay bx by = record { ax = ax; ay = ay; bx = bx; by = by }

-- the strokes of a polyline
polylines : Table polyline_strokes (
    (codes "06 00 40", from_to 0 6 0 0 ∷ from_to 0 0 4 0 ∷ [])  -- three points make two strokes
    ∷ (codes "20", from_to 2 0 2 0 ∷ [])  -- one point makes a dot
    ∷ (codes "", [])  -- no points
    ∷ [])
polylines = refl

-- the strokes of a character
glyphs : Table glyph_strokes (
    (76, from_to 0 6 0 0 ∷ from_to 0 0 4 0 ∷ [])  -- L
    ∷ (108, glyph_strokes 76)  -- a small l
    ∷ (33, from_to 2 6 2 2 ∷ from_to 2 0 2 0 ∷ [])  -- the exclamation mark: a line and a dot
    ∷ (124, from_to 2 6 2 0 ∷ [])  -- the vertical bar
    ∷ (32, [])  -- a space
    ∷ (127, [])  -- DEL
    ∷ [])
unfolding first_rows last_rows
glyphs = refl

-- single strokes, and none after the last
glyph_ends : Agree (
    (slice_get (glyph_strokes 96) 0, Some (from_to 1 6 2 4))  -- the grave accent, before the small letters
    ∷ (slice_get (glyph_strokes 123) 5, Some (from_to 2 1 3 0))  -- the left brace, after them
    ∷ (slice_get (glyph_strokes 76) 2, None)  -- no stroke after the last
    ∷ [])
unfolding first_rows last_rows
glyph_ends = refl

columns : column_width 76 ≡ 3
columns = refl

columns_of_a_small_letter : column_width 108 ≡ 2
columns_of_a_small_letter = refl
