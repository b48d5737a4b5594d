-- The strokes of some characters: theorems that compute.
use Rattle.std.proofs.Common.{◌≡◌, ℕ, ℤ, pos, negsuc, [], ◌∷◌, None, slice_get, refl, List, map}
use Rattle.std.specs.Prelude.{codes}
use Rattle.full_font.specs.Glyphs.{font, polyline_glyph_strokes, code_point_strokes}
use Rattle.full_font.specs.declared.grid.GlyphStroke.{GlyphStroke}

-- a table of examples: each input has its output
abbrev Table : {X Y : Type 0} → (X → Y) → List (X × Y) → Type 0
Table f rows = map (λ it. f it.0) rows ≡ map (λ it. it.1) rows

abbrev from_to : ℕ → ℤ → ℕ → ℤ → GlyphStroke
from_to ax ay bx by = record { ax = ax; ay = ay; bx = bx; by = by }

-- the strokes of a polyline
polylines : Table polyline_glyph_strokes (
    (codes "16 2a 1b", from_to 1 (pos 6) 2 (negsuc 0) ∷ from_to 2 (negsuc 0) 1 (negsuc 1) ∷ [])  -- three points make two strokes
    ∷ (codes "38", from_to 3 (pos 8) 3 (pos 8) ∷ [])  -- one point makes a dot
    ∷ (codes "", [])  -- no points
    ∷ [])
polylines = refl

-- the strokes of letters, digits and signs
letters : Table code_point_strokes (
    (0x4c, from_to 0 (pos 6) 0 (pos 0) ∷ from_to 0 (pos 0) 4 (pos 0) ∷ [])  -- L
    ∷ (0x6c, from_to 1 (pos 6) 2 (pos 6) ∷ from_to 2 (pos 6) 2 (pos 1) ∷ from_to 2 (pos 1) 3 (pos 0) ∷ [])  -- l
    -- j: it goes two units below the baseline, and has its dot
    ∷ (0x6a, from_to 2 (pos 4) 3 (pos 4) ∷ from_to 3 (pos 4) 3 (negsuc 0) ∷ from_to 3 (negsuc 0) 2 (negsuc 1) ∷ from_to 2 (negsuc 1) 0 (negsuc 1) ∷ from_to 3 (pos 6) 3 (pos 6) ∷ [])
    ∷ (0x60, from_to 1 (pos 6) 2 (pos 4) ∷ [])  -- the grave accent, the first row of the second table
    ∷ (0x7e, from_to 0 (pos 3) 1 (pos 4) ∷ from_to 1 (pos 4) 3 (pos 2) ∷ from_to 3 (pos 2) 4 (pos 3) ∷ [])  -- the tilde, the last row of ASCII
    -- o with dieresis: its base letter, then the mark
    ∷ (0xf6, from_to 1 (pos 0) 0 (pos 1) ∷ from_to 0 (pos 1) 0 (pos 3) ∷ from_to 0 (pos 3) 1 (pos 4) ∷ from_to 1 (pos 4) 3 (pos 4) ∷ from_to 3 (pos 4) 4 (pos 3) ∷ from_to 4 (pos 3) 4 (pos 1) ∷ from_to 4 (pos 1) 3 (pos 0) ∷ from_to 3 (pos 0) 1 (pos 0) ∷ from_to 1 (pos 6) 1 (pos 6) ∷ from_to 3 (pos 6) 3 (pos 6) ∷ [])
    -- the letter A, then a ring
    ∷ (0xc5, from_to 0 (pos 0) 0 (pos 4) ∷ from_to 0 (pos 4) 2 (pos 6) ∷ from_to 2 (pos 6) 4 (pos 4) ∷ from_to 4 (pos 4) 4 (pos 0) ∷ from_to 0 (pos 3) 4 (pos 3) ∷ from_to 2 (pos 6) 1 (pos 7) ∷ from_to 1 (pos 7) 2 (pos 8) ∷ from_to 2 (pos 8) 3 (pos 7) ∷ from_to 3 (pos 7) 2 (pos 6) ∷ [])
    -- y with dieresis, the last row of Latin 1
    ∷ (0xff, from_to 0 (pos 4) 2 (pos 0) ∷ from_to 4 (pos 4) 1 (negsuc 1) ∷ from_to 1 (negsuc 1) 0 (negsuc 1) ∷ from_to 1 (pos 6) 1 (pos 6) ∷ from_to 3 (pos 6) 3 (pos 6) ∷ [])
    -- the capital ligature of O and E, the first row of the last table
    ∷ (0x152, from_to 4 (pos 6) 1 (pos 6) ∷ from_to 1 (pos 6) 0 (pos 5) ∷ from_to 0 (pos 5) 0 (pos 1) ∷ from_to 0 (pos 1) 1 (pos 0) ∷ from_to 1 (pos 0) 4 (pos 0) ∷ from_to 2 (pos 6) 2 (pos 0) ∷ from_to 2 (pos 3) 4 (pos 3) ∷ [])
    -- the black square, the last row
    ∷ (0x25a0, from_to 0 (pos 1) 0 (pos 5) ∷ from_to 0 (pos 5) 4 (pos 5) ∷ from_to 4 (pos 5) 4 (pos 1) ∷ from_to 4 (pos 1) 0 (pos 1) ∷ from_to 1 (pos 2) 1 (pos 4) ∷ from_to 1 (pos 4) 3 (pos 4) ∷ from_to 3 (pos 4) 3 (pos 2) ∷ from_to 3 (pos 2) 1 (pos 2) ∷ from_to 2 (pos 3) 2 (pos 3) ∷ [])
    ∷ (0x4e00, from_to 0 (pos 0) 0 (pos 6) ∷ from_to 0 (pos 6) 4 (pos 6) ∷ from_to 4 (pos 6) 4 (pos 0) ∷ from_to 4 (pos 0) 0 (pos 0) ∷ [])  -- a code point without a row has a box
    ∷ (0x7f, code_point_strokes 0x4e00)  -- also the one after the tilde, DEL
    ∷ (0x20, [])  -- a space has no strokes
    ∷ (0xa0, [])  -- nor has a no-break space
    ∷ [])
unfolding font
letters = refl

-- no stroke after the last
past_the_last : slice_get (code_point_strokes 0x4c) 2 ≡ None
unfolding font
past_the_last = refl
