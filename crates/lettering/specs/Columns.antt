-- The cells of a label: the column and the line of the next letter, both counted from the label's first. Columns before
-- the first are below 0.
use Rattle.std.specs.Prelude.{suc, List, [], ◌∷◌, ℤ, pos, ◌+ℤ◌, ◌-ℤ◌, ◌*ℤ◌}
use Rattle.std.specs.Int.{int_max}
use Rattle.exact.specs.Fraction.{floor, quotient}
use Rattle.character_sets.specs.declared.sign.Sign.{Sign}
use Rattle.character_sets.specs.declared.sign.Sign.TheVariants.{Printed, CarriageReturn, LineFeed, Back, Tab}
use Rattle.lettering.specs.declared.cell.Cell.{Cell}

-- the next of the columns 0, 8, 16 and so on, also below 0
abbrev pub next_stop : ℤ → ℤ
next_stop column = pos 8 *ℤ (floor (quotient column (pos 8)) +ℤ pos 1)

abbrev pub column_after_sign : ℤ → Sign → ℤ
column_after_sign column (Printed _) = column +ℤ pos 1
column_after_sign column Back = column -ℤ pos 1
column_after_sign column Tab = next_stop column
column_after_sign column CarriageReturn = pos 0
column_after_sign column LineFeed = column

abbrev pub cell_moved_on : Cell → Sign → Cell
cell_moved_on cell LineFeed = record cell { line = suc cell.line }
cell_moved_on cell sign = record cell { column = column_after_sign cell.column sign }

abbrev pub first_cell : Cell
first_cell = record { column = pos 0; line = 0 }

-- the cell after signs
abbrev pub cell_after_signs : Cell → List Sign → Cell
cell_after_signs cell [] = cell
cell_after_signs cell (sign ∷ signs) = cell_after_signs (cell_moved_on cell sign) signs

-- the cell after a label
abbrev pub last_cell : List Sign → Cell
last_cell signs = cell_after_signs first_cell signs

-- the greatest column, from a column on, that is reached before the next CR
abbrev pub reach_from : ℤ → List Sign → ℤ
reach_from column [] = column
reach_from column (CarriageReturn ∷ signs) = column
reach_from column (sign ∷ signs) = int_max column (reach_from (column_after_sign column sign) signs)

-- how many letters long the section is that begins here: the greatest column that is reached in it, and at least 1
abbrev pub section_letters : List Sign → ℤ
section_letters signs = int_max (pos 1) (reach_from (pos 0) signs)
