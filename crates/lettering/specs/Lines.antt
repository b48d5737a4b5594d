-- The lines of a label: letters that follow one another, and where they are on the page. What is no printed character ends a
-- line.
use Rattle.std.specs.Prelude.{ℕ, List, [], ◌∷◌, ◌++◌, Option, Some, None, ℤ, pos, ◌+ℤ◌}
use Rattle.std.specs.Option.{option_to_list}
use Rattle.exact.specs.declared.spot.Spot.{Spot}
use Rattle.character_sets.specs.declared.sign.Sign.{Sign}
use Rattle.character_sets.specs.declared.sign.Sign.TheVariants.{Printed}
use Rattle.labels.specs.Labels.{LineShape, line_at, place_of, with_letter}
use Rattle.labels.specs.declared.place.Place.{Place}
use Rattle.lettering.specs.Columns.{first_cell, cell_moved_on, section_letters}
use Rattle.lettering.specs.Labels.{letters_after}
use Rattle.lettering.specs.Letters.{letter_corner, letter_point}
use Rattle.lettering.specs.declared.cell.Cell.{Cell}
use Rattle.lettering.specs.declared.lines.GridPoint.{GridPoint}
use Rattle.lettering.specs.declared.style.Path.{Path}
use Rattle.lettering.specs.declared.style.Path.TheVariants.{Right, Down, Left, Up}
use Rattle.lettering.specs.declared.style.Style.{Style}

-- a text runs along the path: the corner of a capital, on the letter's grid, from which it runs, and the corner above that
abbrev pub start_on_grid : Path → GridPoint
start_on_grid Right = record { i = 0; j = pos 0 }
start_on_grid Down = record { i = 0; j = pos 6 }
start_on_grid Left = record { i = 4; j = pos 6 }
start_on_grid Up = record { i = 4; j = pos 0 }

abbrev pub top_on_grid : Path → GridPoint
top_on_grid Right = record { i = 0; j = pos 6 }
top_on_grid Down = record { i = 4; j = pos 6 }
top_on_grid Left = record { i = 4; j = pos 0 }
top_on_grid Up = record { i = 0; j = pos 0 }

-- a point of a letter's grid on the page, in a cell and a section of n letters of the label that starts there
abbrev pub grid_place : Style → Spot → ℤ → Cell → GridPoint → Place
grid_place style start n cell q =
    let offset = letter_point style (letter_corner style cell n) q.i q.j in
    place_of (record { x = start.x +ℤ offset.x; y = start.y +ℤ offset.y })

abbrev pub letter_start : Style → Spot → ℤ → Cell → Place
letter_start style start n cell = grid_place style start n cell (start_on_grid style.path)

abbrev pub letter_top : Style → Spot → ℤ → Cell → Place
letter_top style start n cell = grid_place style start n cell (top_on_grid style.path)

-- the line that has begun, or one that begins in this cell
abbrev pub line_begun : Style → Spot → ℤ → Cell → Option LineShape → LineShape
line_begun style start n cell None = line_at (letter_start style start n cell) (letter_top style start n cell)
line_begun style start n cell (Some line) = line

-- with a letter in this cell
abbrev pub lined : Style → Spot → ℤ → Cell → Option LineShape → ℕ → LineShape
lined style start n cell begun code_point =
    with_letter
    (line_begun style start n cell begun) code_point (letter_start style start n (cell_moved_on cell (Printed code_point)))

-- the line that has begun, and those of signs from a cell on and a section of n letters
abbrev pub lines_from : Style → Spot → ℤ → Cell → Option LineShape → List Sign → List LineShape
lines_from style start n cell begun [] = option_to_list begun
lines_from style start n cell begun (Printed code_point ∷ signs) =
    lines_from style start n (cell_moved_on cell (Printed code_point)) (Some (lined style start n cell begun code_point)) signs
lines_from style start n cell begun (sign ∷ signs) =
    option_to_list begun ++ lines_from style start (letters_after n sign signs) (cell_moved_on cell sign) None signs

-- the lines of the label that starts there
abbrev pub label_lines : Style → Spot → List Sign → List LineShape
label_lines style start signs = lines_from style start (section_letters signs) first_cell None signs
