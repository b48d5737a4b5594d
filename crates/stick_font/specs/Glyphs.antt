-- The strokes of characters, on a grid: x is 0 to 4 from left to right, y is 0 to 6 from the baseline up. The shapes
-- are data in src/font.rt, and are our own.
use Rattle.std.specs.Prelude.{ℕ, Bool, List, [], ◌∷◌, map, nat_le, ◌&&◌, if◌then◌else◌, ◌-◌, slice_index_or}
use Rattle.std.specs.List.{flat_map}
use Rattle.stick_font.specs.declared.font.TheConstants.{FROM_EXCLAMATION_MARK, FROM_LEFT_BRACE}
use Rattle.stick_font.specs.declared.grid.GridStroke.{GridStroke}
use Rattle.stick_font.specs.declared.grid.Point.{Point}

-- the value of a digit
abbrev pub digit : ℕ → ℕ
digit byte = byte - 48

abbrev pub point : ℕ → ℕ → Point
point x y = record { x = digit x; y = digit y }

-- the points of a polyline's text: two digits each, x and y, with a space between two points
abbrev pub grid_points : List ℕ → List Point
grid_points [] = []
grid_points (x ∷ []) = []
grid_points (x ∷ y ∷ []) = point x y ∷ []
grid_points (x ∷ y ∷ _ ∷ rest) = point x y ∷ grid_points rest

-- a stroke from one point to another
abbrev pub grid_stroke : Point → Point → GridStroke
grid_stroke a b = record { ax = a.x; ay = a.y; bx = b.x; by = b.y }

-- the strokes from each point to the next
abbrev pub joins : List Point → List GridStroke
joins [] = []
joins (a ∷ []) = []
joins (a ∷ b ∷ rest) = grid_stroke a b ∷ joins (b ∷ rest)

-- a single point is a dot: a stroke from the point to itself
abbrev pub strokes_through : List Point → List GridStroke
strokes_through [] = []
strokes_through (a ∷ []) = grid_stroke a a ∷ []
strokes_through (a ∷ b ∷ rest) = joins (a ∷ b ∷ rest)

-- the strokes of a polyline
abbrev pub polyline_strokes : List ℕ → List GridStroke
polyline_strokes line = strokes_through (grid_points line)

abbrev pub is_byte_between : ℕ → ℕ → ℕ → Bool
is_byte_between first last byte = nat_le first byte && nat_le byte last

-- a small letter, a to z
abbrev pub is_small : ℕ → Bool
is_small byte = is_byte_between 97 122 byte

-- the polylines of the bytes 33 to 96
unfoldable pub first_rows : List (List (List ℕ))
first_rows = map (λ lines. map (λ line. line.now) lines.now) FROM_EXCLAMATION_MARK

-- the polylines of the bytes 123 to 126
unfoldable pub last_rows : List (List (List ℕ))
last_rows = map (λ lines. map (λ line. line.now) lines.now) FROM_LEFT_BRACE

-- the polylines of a character: a small letter has those of its capital, the byte 32 less. A table has a row for each
-- of its bytes, so no byte gets the default of a look-up.
abbrev pub polylines : ℕ → List (List ℕ)
polylines byte =
    if is_byte_between 33 96 byte then slice_index_or first_rows (byte - 33) []
    else if is_small byte then slice_index_or first_rows (byte - 32 - 33) []
    else if is_byte_between 123 126 byte then slice_index_or last_rows (byte - 123) []
    else []

-- the strokes of a character, in the order in which they are drawn
abbrev pub glyph_strokes : ℕ → List GridStroke
glyph_strokes byte = flat_map polyline_strokes (polylines byte)

-- the distance between two columns of the grid, in twelfths of a capital's width
abbrev pub column_width : ℕ → ℕ
column_width byte = if is_small byte then 2 else 3
