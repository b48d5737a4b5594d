-- A label: the cell of each character, by the bytes before it, the newest first; the points and strokes of characters,
-- and how far they lie from the label's start. A point is in twelfths of a character's width and eighteenths of its
-- height.
use Rattle.std.specs.Prelude.{ℕ, suc, Bool, List, [], ◌∷◌, nat_eq, if◌then◌else◌, ◌+◌, ◌*◌, ℤ, pos, ◌-ℤ◌, ◌*ℤ◌, ◌++◌}
use Rattle.std.specs.Prelude.{map, reverse}
use Rattle.stick_font.specs.Glyphs.{is_byte_between, glyph_strokes, column_width}
use Rattle.stick_font.specs.declared.cell.Cell.{Cell}
use Rattle.exact.specs.Fraction.{round, quotient}
use Rattle.exact.specs.declared.spot.Spot.{Spot}
unfoldable pub use Rattle.stick_font.specs.Glyphs.{first_rows, last_rows}
use Rattle.stick_font.specs.declared.grid.GridStroke.{GridStroke}
use Rattle.stick_font.specs.declared.size.CharacterSize.{CharacterSize}
use Rattle.stick_font.specs.declared.label.LabelStroke.{LabelStroke}

abbrev pub line_feed : ℕ
line_feed = 10

abbrev pub carriage_return : ℕ
carriage_return = 13

-- a space or a character of the font
abbrev pub is_printed : ℕ → Bool
is_printed byte = is_byte_between 32 126 byte

-- the column: how many bytes were printed since the most recent CR
abbrev pub column_after : List ℕ → ℕ
column_after [] = 0
column_after (byte ∷ before) =
    if nat_eq byte carriage_return then 0 else
    if is_printed byte then suc (column_after before) else column_after before

-- the line: how many LF there were
abbrev pub line_after : List ℕ → ℕ
line_after [] = 0
line_after (byte ∷ before) = if nat_eq byte line_feed then suc (line_after before) else line_after before

abbrev pub cell_after : List ℕ → Cell
cell_after before = record { column = column_after before; line = line_after before }

-- the point (i, j) of a character's grid, by how many twelfths of a width its columns are apart. A cell is 18 twelfths
-- from the cell before it, and 36 eighteenths from the cell above it.
abbrev pub grid_point : Cell → ℕ → ℕ → ℕ → Spot
grid_point cell unit i j = record { x = pos (18 * cell.column + unit * i); y = pos (unit * j) -ℤ pos (36 * cell.line) }

-- the lower left corner of a cell
abbrev pub corner : Cell → Spot
corner cell = grid_point cell 0 0 0

abbrev pub stroke_in : Cell → ℕ → GridStroke → LabelStroke
stroke_in cell unit s = record { from = grid_point cell unit s.ax s.ay; to = grid_point cell unit s.bx s.by }

-- the strokes of a byte in a cell
abbrev pub character_strokes : Cell → ℕ → List LabelStroke
character_strokes cell byte = map (stroke_in cell (column_width byte)) (glyph_strokes byte)

-- the strokes of bytes, each in the cell after the bytes before it
abbrev pub strokes_in_cells : List ℕ → List ℕ → List LabelStroke
strokes_in_cells before [] = []
strokes_in_cells before (byte ∷ bytes) =
    character_strokes (cell_after before) byte ++ strokes_in_cells (byte ∷ before) bytes

-- the strokes of a label
abbrev pub label_strokes : List ℕ → List LabelStroke
label_strokes bytes = strokes_in_cells [] bytes

-- where a label ends: the corner of the next character's cell
abbrev pub label_end : List ℕ → Spot
label_end bytes = corner (cell_after (reverse bytes))

-- a number of parts of a size
abbrev pub share : ℤ → ℤ → ℕ → ℤ
share count size parts = round (quotient (count *ℤ size) (pos parts))

-- how far a point is from the label's start, in grains
abbrev pub offset : CharacterSize → Spot → Spot
offset size p = record { x = share p.x size.width 12; y = share p.y size.height 18 }
