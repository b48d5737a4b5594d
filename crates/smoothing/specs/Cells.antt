-- The colours of cells, as a picture.
use Rattle.std.specs.Prelude.{ℕ, List, [], get_or, map}
use Rattle.std.specs.Global.{Vec}
use Rattle.picture_out.specs.declared.inks.Ink.{Ink}
use Rattle.picture_out.specs.Inks.{cell_colour}
use Rattle.smoothing.specs.Smoothings.{Colours}

-- the colours of rows of cells; past their edges is paper
abbrev pub colours_of_cells : List Ink → List (List ℕ) → Colours
colours_of_cells inks rows row column = cell_colour inks (get_or (get_or rows row []) column 0)

-- the cells of rows
abbrev pub cells_of : List (Vec ℕ) → List (List ℕ)
cells_of rows = map (λ row. row.items) rows
