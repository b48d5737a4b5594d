-- What the bytes of a row say of its cells, one column at a time.
use Rattle.std.specs.Prelude.{◌≡◌, ℕ, ◌-◌, ◌*◌, ◌/◌, ◌%◌, ◌^◌, ◌<◌, Bool, true, false, not, nat_eq, List, [], ◌∷◌, ◌++◌}
use Rattle.std.specs.Prelude.{length, get_or, take, drop, filter, flat_map, decimal}
use Rattle.std.specs.List.{range_with_len}
use Rattle.picture_out.specs.declared.form.Form.TheVariants.{Marks, Pbm, Ppm, Pcl}
use Rattle.picture_out.specs.declared.inks.Ink.{Ink}
use Rattle.picture_out.specs.Inks.{ink_at, colour_bytes}
use Rattle.picture_out.specs.Marks.{line}
use Rattle.bit_rows.specs.Bits.{bytes_for}
use Rattle.picture_out.specs.Pcl.{transfer_command}
use Rattle.picture_out.specs.Forms.{row_bytes}

-- the row has a cell in this column, and it is not 0
abbrev pub is_inked : List ℕ → ℕ → Bool
is_inked cells column = not (nat_eq (get_or cells column 0) 0)

-- the ink of the cell in a column
abbrev pub ink_of : List Ink → List ℕ → ℕ → Ink
ink_of inks cells column = ink_at inks (get_or cells column 0)

-- the columns with ink, from left to right
abbrev pub inked_columns : List ℕ → List ℕ
inked_columns cells = filter (is_inked cells) (range_with_len 0 (length cells))

-- Marks prints a line for each column with ink, from left to right, and nothing else
abbrev pub MarksPrintsMarks : Type 0
MarksPrintsMarks =
    (row : ℕ) (inks : List Ink) (cells : List ℕ) → row_bytes Marks row inks cells
    ≡ flat_map (λ column. line (decimal row) column (ink_of inks cells column)) (inked_columns cells)

-- the bit of a column, where the highest bit of a byte comes first
abbrev pub bit_at : List ℕ → ℕ → ℕ
bit_at bytes column = get_or bytes (column / 8) 0 / 2 ^ (7 - column % 8) % 2

-- the bits of a row: 1 in the columns with ink; 0 in the others, and after the last column
pub record BitsShow (cells bytes : List ℕ) : Type 0 where
  pub size : length bytes ≡ bytes_for (length cells)
  pub black : (column : ℕ) → is_inked cells column ≡ true → bit_at bytes column ≡ 1
  pub white : (column : ℕ) → is_inked cells column ≡ false → bit_at bytes column ≡ 0

abbrev pub PbmShowsInk : Type 0
PbmShowsInk = (row : ℕ) (inks : List Ink) (cells : List ℕ) → BitsShow cells (row_bytes Pbm row inks cells)

-- a PCL row: the command that transfers bytes, with their number, and then the bytes of the PBM row, whose bits show
-- the ink
pub record PclShows (row : ℕ) (inks : List Ink) (cells : List ℕ) : Type 0 where
  pub parts : row_bytes Pcl row inks cells ≡ transfer_command (bytes_for (length cells)) ++ row_bytes Pbm row inks cells
  pub bits : BitsShow cells (row_bytes Pbm row inks cells)

abbrev pub PclShowsInk : Type 0
PclShowsInk = (row : ℕ) (inks : List Ink) (cells : List ℕ) → PclShows row inks cells

-- the three bytes of a column: red, green and blue
abbrev pub bytes_at : List ℕ → ℕ → List ℕ
bytes_at bytes column = take 3 (drop (3 * column) bytes)

-- the colours of a row: the ink's in the columns with ink, white in the others
pub record ColoursShow (inks : List Ink) (cells bytes : List ℕ) : Type 0 where
  pub size : length bytes ≡ 3 * length cells
  pub inked : (column : ℕ) → is_inked cells column ≡ true → bytes_at bytes column ≡ colour_bytes (ink_of inks cells column)
  pub white : (column : ℕ) → column < length cells → is_inked cells column ≡ false → bytes_at bytes column
      ≡ 255 ∷ 255 ∷ 255 ∷ []

abbrev pub PpmShowsColours : Type 0
PpmShowsColours = (row : ℕ) (inks : List Ink) (cells : List ℕ) → ColoursShow inks cells (row_bytes Ppm row inks cells)
