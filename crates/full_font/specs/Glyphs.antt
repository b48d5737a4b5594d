-- The strokes of characters by their code points, on a grid: x is 0 to 4 from left to right, y is -2 to 8 upward, and the
-- baseline is 0. The shapes are data in src/font.rt, and are our own.
use Rattle.std.specs.Prelude.{ℕ, ℤ, pos, negsuc, List, [], ◌∷◌, map, ◌++◌, nat_eq, nat_le, ◌&&◌, if◌then◌else◌, ◌-◌}
use Rattle.std.specs.List.{flat_map}
use Rattle.full_font.specs.declared.font.TheConstants.{BOX, FROM_SPACE, FROM_GRAVE_ACCENT, FROM_NO_BREAK_SPACE, FROM_ETH, FURTHER}
use Rattle.full_font.specs.declared.grid.GlyphStroke.{GlyphStroke}
use Rattle.full_font.specs.declared.grid.Point.{Point}

-- the value of a digit, 0 to 9
abbrev pub digit_or_0 : ℕ → ℕ
digit_or_0 byte = if nat_le 48 byte && nat_le byte 57 then byte - 48 else 0

-- the y that a byte stands for: a digit, or -1 for a and -2 for b
abbrev pub y_of : ℕ → ℤ
y_of byte = if nat_eq byte 97 then negsuc 0 else if nat_eq byte 98 then negsuc 1 else pos (digit_or_0 byte)

abbrev pub glyph_point : ℕ → ℕ → Point
glyph_point x y = record { x = digit_or_0 x; y = y_of y }

-- the points of a polyline's text: two bytes each, x and y, with a space between two points
abbrev pub glyph_points : List ℕ → List Point
glyph_points [] = []
glyph_points (x ∷ []) = []
glyph_points (x ∷ y ∷ []) = glyph_point x y ∷ []
glyph_points (x ∷ y ∷ _ ∷ rest) = glyph_point x y ∷ glyph_points rest

-- a stroke from one point to another
abbrev pub glyph_stroke : Point → Point → GlyphStroke
glyph_stroke a b = record { ax = a.x; ay = a.y; bx = b.x; by = b.y }

-- the strokes from each point to the next
abbrev pub glyph_joins : List Point → List GlyphStroke
glyph_joins [] = []
glyph_joins (a ∷ []) = []
glyph_joins (a ∷ b ∷ rest) = glyph_stroke a b ∷ glyph_joins (b ∷ rest)

-- a single point is a dot: a stroke from the point to itself
abbrev pub glyph_strokes_through : List Point → List GlyphStroke
glyph_strokes_through [] = []
glyph_strokes_through (a ∷ []) = glyph_stroke a a ∷ []
glyph_strokes_through (a ∷ b ∷ rest) = glyph_joins (a ∷ b ∷ rest)

-- the strokes of a polyline
abbrev pub polyline_glyph_strokes : List ℕ → List GlyphStroke
polyline_glyph_strokes line = glyph_strokes_through (glyph_points line)

-- a row of the font: a code point, and the texts of its polylines
abbrev pub Row : Type 0
Row = ℕ × List (List ℕ)

-- the rows of the tables of src/font.rt
unfoldable pub font : List Row
font =
    map (λ row. (row.0, map (λ line. line.now) row.1.now))
    (FROM_SPACE ++ FROM_GRAVE_ACCENT ++ FROM_NO_BREAK_SPACE ++ FROM_ETH ++ FURTHER)

-- an empty box
abbrev pub box : List (List ℕ)
box = map (λ line. line.now) BOX

-- the polylines of a code point by its row, or a box if it has none
abbrev pub lines_in : List Row → ℕ → List (List ℕ)
lines_in [] code_point = box
lines_in (row ∷ rows) code_point = if nat_eq row.0 code_point then row.1 else lines_in rows code_point

-- the strokes of a character, in the order in which they are drawn
abbrev pub code_point_strokes : ℕ → List GlyphStroke
code_point_strokes code_point = flat_map polyline_glyph_strokes (lines_in font code_point)
