-- A label (HP-GL/2 guide: LB), by its signs: the strokes of its letters, where the pen ends, and where its last line is,
-- from the label's start, in grains.
use Rattle.std.specs.Prelude.{◌-◌, ◌*◌, ◌^◌, List, [], ◌∷◌, ◌++◌, ℤ, pos, ◌*ℤ◌}
use Rattle.exact.specs.declared.spot.Spot.{Spot}
use Rattle.character_sets.specs.declared.sign.Sign.{Sign}
use Rattle.character_sets.specs.declared.sign.Sign.TheVariants.{Printed, CarriageReturn}
use Rattle.lettering.specs.Cells.{cell_offset}
use Rattle.lettering.specs.Columns.{first_cell, last_cell, cell_moved_on, section_letters}
use Rattle.lettering.specs.Letters.{letter_corner, letter_strokes, origin_column}
use Rattle.lettering.specs.declared.cell.Cell.{Cell}
use Rattle.lettering.specs.declared.style.Style.{Style}

-- how many letters the section after a sign has, if that before it has n
abbrev pub letters_after : ℤ → Sign → List Sign → ℤ
letters_after n CarriageReturn signs = section_letters signs
letters_after n _ signs = n

-- the strokes of a sign in a cell and a section of n letters: only printed characters have any
abbrev pub sign_strokes : Style → ℤ → Cell → Sign → List (Spot × Spot)
sign_strokes style n cell (Printed code_point) = letter_strokes style (letter_corner style cell n) code_point
sign_strokes style n cell _ = []

-- the strokes of signs, from a cell on and a section of n letters
abbrev pub strokes_from : Style → ℤ → Cell → List Sign → List (Spot × Spot)
strokes_from style n cell [] = []
strokes_from style n cell (sign ∷ signs) =
    sign_strokes style n cell sign ++ strokes_from style (letters_after n sign signs) (cell_moved_on cell sign) signs

-- the strokes of a label, each as its two ends
abbrev pub styled_label_strokes : Style → List Sign → List (Spot × Spot)
styled_label_strokes style signs = strokes_from style (section_letters signs) first_cell signs

-- where the pen ends: in the next letter's cell if LO's column is 0, half as many columns on if it is 1, and in the
-- first column if it is 2
abbrev pub end_in : Style → Cell → Spot
end_in style cell =
    cell_offset style
    (pos (500000 * (2 - origin_column style)) *ℤ cell.column)
    (pos (10 ^ 6 * cell.line))

abbrev pub styled_label_end : Style → List Sign → Spot
styled_label_end style signs = end_in style (last_cell signs)

-- how far the label moves the left margin
abbrev pub margin_move : Style → List Sign → Spot
margin_move style signs = cell_offset style (pos 0) (pos (10 ^ 6 * (last_cell signs).line))
