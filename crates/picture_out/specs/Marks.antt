-- Marks: a line of text for each cell that is not 0.
use Rattle.std.specs.Prelude.{ℕ, ◌+◌, ◌/◌, ◌%◌, List, [], ◌∷◌, ◌++◌, nat_eq, if◌then◌else◌, false, codes, decimal}
use Rattle.std.specs.Fmt.{digit_glyph}
use Rattle.picture_out.specs.declared.inks.Ink.{Ink}
use Rattle.picture_out.specs.Inks.{ink_at}

-- a byte as two hexadecimal digits, in lower case
abbrev pub two_digits : ℕ → List ℕ
two_digits byte = digit_glyph false (byte / 16) ∷ digit_glyph false (byte % 16) ∷ []

-- red, green and blue, two digits each
abbrev pub colour_digits : Ink → List ℕ
colour_digits ink = two_digits ink.red ++ two_digits ink.green ++ two_digits ink.blue

-- a line: the row's number as text, the column, the pen and the colour, separated by spaces
abbrev pub line : List ℕ → ℕ → Ink → List ℕ
line index column ink =
    index ++ codes " " ++ decimal column ++ codes " " ++ decimal ink.pen ++ codes " " ++ colour_digits ink ++ codes "\n"

-- the line of one cell; nothing for 0
abbrev pub mark : List ℕ → ℕ → List Ink → ℕ → List ℕ
mark index column inks cell = if nat_eq cell 0 then [] else line index column (ink_at inks cell)

-- the lines of cells that begin in a column
abbrev pub marks_from : List ℕ → ℕ → List Ink → List ℕ → List ℕ
marks_from index column inks [] = []
marks_from index column inks (cell ∷ cells) = mark index column inks cell ++ marks_from index (column + 1) inks cells

-- the lines of the row of this number
abbrev pub marks : ℕ → List Ink → List ℕ → List ℕ
marks index inks cells = marks_from (decimal index) 0 inks cells
