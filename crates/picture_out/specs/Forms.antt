-- The forms of a picture: the bytes of its parts, and its resolutions.
use Rattle.std.specs.Prelude.{ℕ, Bool, true, List, [], ◌++◌, flat_map, codes, decimal}
use Rattle.picture_out.specs.declared.form.Form.{Form}
use Rattle.picture_out.specs.declared.form.Form.TheVariants.{Marks, Pbm, Ppm, Pcl}
use Rattle.picture_out.specs.declared.inks.Ink.{Ink}
use Rattle.bit_rows.specs.Bits.{packed}
use Rattle.picture_out.specs.Inks.{cell_colour}
use Rattle.picture_out.specs.Marks.{marks}
use Rattle.picture_out.specs.Pcl as pcl

-- the size line of Netpbm's forms: the columns, then the rows
abbrev pub size_line : ℕ → ℕ → List ℕ
size_line columns rows = decimal columns ++ codes " " ++ decimal rows ++ codes "\n"

-- the header, at a resolution in dots per inch
abbrev pub head_bytes : Form → ℕ → ℕ → ℕ → List ℕ
head_bytes Marks dots columns rows = []
head_bytes Pbm dots columns rows = codes "P4\n" ++ size_line columns rows
head_bytes Ppm dots columns rows = codes "P6\n" ++ size_line columns rows ++ codes "255\n"
head_bytes Pcl dots columns rows = pcl.head dots columns rows

-- the row of this number: for each column a cell, 0 or the position of an ink, counted from 1
abbrev pub row_bytes : Form → ℕ → List Ink → List ℕ → List ℕ
row_bytes Marks index inks cells = marks index inks cells
row_bytes Pbm index inks cells = packed cells
row_bytes Ppm index inks cells = flat_map (cell_colour inks) cells
row_bytes Pcl index inks cells = pcl.row (packed cells)

-- the foot, which follows the rows
abbrev pub foot_bytes : Form → List ℕ
foot_bytes Marks = []
foot_bytes Pbm = []
foot_bytes Ppm = []
foot_bytes Pcl = pcl.foot

-- whether a picture in this form may have this resolution, in dots per inch
abbrev pub takes_resolution : Form → ℕ → Bool
takes_resolution Marks dots = true
takes_resolution Pbm dots = true
takes_resolution Ppm dots = true
takes_resolution Pcl dots = pcl.is_pcl_resolution dots
