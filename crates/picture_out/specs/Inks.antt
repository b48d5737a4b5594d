-- Inks: the pen and the colour of each position, and the colours of cells.
use Rattle.std.specs.Prelude.{ℕ, ◌-◌, List, [], ◌∷◌, get_or, nat_eq, if◌then◌else◌}
use Rattle.picture_out.specs.declared.inks.Ink.{Ink}

-- pen 0, white
abbrev pub paper : Ink
paper = record { pen = 0; red = 255; green = 255; blue = 255 }

-- the ink at position n, counted from 1
abbrev pub ink_at : List Ink → ℕ → Ink
ink_at inks n = get_or inks (n - 1) paper

-- red, green and blue
abbrev pub colour_bytes : Ink → List ℕ
colour_bytes ink = ink.red ∷ ink.green ∷ ink.blue ∷ []

-- the colour of a cell: the paper's for 0, otherwise that of the ink at its position
abbrev pub cell_colour : List Ink → ℕ → List ℕ
cell_colour inks cell = if nat_eq cell 0 then colour_bytes paper else colour_bytes (ink_at inks cell)
