-- What the writing of rows asks of its buffer and of the cells.
use Rattle.std.specs.Prelude.{ℕ, ◌*◌, ◌^◌, ◌<◌, ◌≤◌, List, All, length}
use Rattle.picture_out.specs.declared.form.Form.{Form}
use Rattle.picture_out.specs.declared.form.Form.TheVariants.{Marks, Pbm, Ppm, Pcl}
use Rattle.picture_out.specs.declared.inks.Ink.{Ink}
use Rattle.bit_rows.specs.Bits.{bytes_for}
use Rattle.picture_out.specs.Forms.{row_bytes}

-- the least length of a buffer for rows of a number of columns
abbrev pub room_of : Form → ℕ → ℕ
room_of Marks columns = 0
room_of Pbm columns = bytes_for columns
room_of Ppm columns = 3 * columns
room_of Pcl columns = bytes_for columns

-- a buffer of this length takes any row of at most this number of columns, whatever its inks
pub record TakesAnyRow (form : Form) (columns space : ℕ) : Type 0 where
  pub any : (index : ℕ) (inks : List Ink) (cells : List ℕ) → index < 2 ^ 32 → All (λ ink. ink.pen < 256) inks →
      length cells ≤ columns →
      length (row_bytes form index inks cells) ≤ space

-- each of these cells is 0 or the position of an ink
abbrev pub AreInked : List Ink → List ℕ → Type 0
AreInked inks cells = All (λ cell. cell ≤ length inks) cells
