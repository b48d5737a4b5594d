-- The texts of labels: which lines a page has, and how their letters are written and placed.
use Rattle.std.specs.Prelude.{ℕ, ◌+◌, ◌*◌, ◌/◌, ◌%◌, ◌==◌, ◌&&◌, nat_lt, Bool, false, if◌then◌else◌, List, [], ◌∷◌, ◌++◌}
use Rattle.std.specs.Prelude.{length, filter, get_or}
use Rattle.std.specs.Prelude.{ℤ, ◌-ℤ◌}
use Rattle.std.specs.List.{list_any}
use Rattle.labels.specs.Labels.{LabelShape, LineShape}
use Rattle.plot_page.specs.Segments.{Segment}
use Rattle.plot_page.specs.declared.pens.PenSet.{PenSet}
use Rattle.stroke_runs.specs.Shown.{is_shown}
use Rattle.pdf.specs.Numbers.{rounded}

-- a code point as it is written: one of more than 16 bits is U+FFFD
abbrev pub written : ℕ → ℕ
written point = if nat_lt point 65536 then point else 65533

-- a font has the 256 code points of a row, each by a byte
abbrev pub row_of : ℕ → ℕ
row_of point = written point / 256

abbrev pub byte_of : ℕ → ℕ
byte_of point = written point % 256

-- letters of one row that follow one another
pub record Piece : Type 0 where
  pub row : ℕ
  pub bytes : List ℕ

-- with a letter before them
abbrev pub with_byte : ℕ → ℕ → List Piece → List Piece
with_byte row byte [] = record { row = row; bytes = byte ∷ [] } ∷ []
with_byte row byte (p ∷ ps) =
    if row == p.row then record { row = row; bytes = byte ∷ p.bytes } ∷ ps else
    record { row = row; bytes = byte ∷ [] } ∷ p ∷ ps

-- the longest pieces of a text
abbrev pub pieces : List ℕ → List Piece
pieces [] = []
pieces (point ∷ points) = with_byte (row_of point) (byte_of point) (pieces points)

-- a text matrix: its first four numbers, in thousandths. ISO 32000-1, 9.4.2.
pub record Matrix : Type 0 where
  pub a : ℤ
  pub b : ℤ
  pub c : ℤ
  pub d : ℤ

-- from one place to another, horizontally or vertically, for each of so many letters of Courier, which are 3/5 wide
abbrev pub along : ℤ → ℤ → ℕ → ℤ
along from to letters = rounded 5000 (to -ℤ from) (3 * letters)

-- from one place to another for a capital of Courier, which is 9/16 high
abbrev pub above : ℤ → ℤ → ℤ
above from to = rounded 16000 (to -ℤ from) 9

-- letters of Courier lie over those of the line
abbrev pub matrix_of : LineShape → Matrix
matrix_of l = record {
  a = along l.start.x l.end.x (length l.text);
  b = along l.start.y l.end.y (length l.text);
  c = above l.start.x l.top.x;
  d = above l.start.y l.top.y;
}

abbrev pub has_letters : LineShape → Bool
has_letters l = nat_lt 0 (length l.text)

-- a label of a sheet of these strokes is shown, and has a letter
abbrev pub has_text : PenSet → List Segment → LabelShape → Bool
has_text pens strokes l = is_shown pens strokes l && list_any has_letters l.lines

-- the lines with letters of the labels that are shown
abbrev pub shown_lines : PenSet → List Segment → List LabelShape → List LineShape
shown_lines pens strokes [] = []
shown_lines pens strokes (l ∷ ls) =
    (if is_shown pens strokes l then filter has_letters l.lines else []) ++ shown_lines pens strokes ls

-- a letter of a line is of this row
abbrev pub has_row : ℕ → LineShape → Bool
has_row row l = list_any (λ point. row == row_of point) l.text

abbrev pub shows_row : PenSet → List Segment → ℕ → LabelShape → Bool
shows_row pens strokes row l = is_shown pens strokes l && list_any (has_row row) l.lines

-- rows are marked
abbrev pub is_marked : List Bool → ℕ → Bool
is_marked marked row = get_or marked row false

-- how many letters lines have, and labels
abbrev pub line_letters : List LineShape → ℕ
line_letters [] = 0
line_letters (l ∷ ls) = length l.text + line_letters ls

abbrev pub letter_count : List LabelShape → ℕ
letter_count [] = 0
letter_count (l ∷ ls) = line_letters l.lines + letter_count ls
