-- The numbers of colours: of the colours of AutoCAD's index, which have the numbers 1 to 255, the nearest one.
use Rattle.std.specs.Prelude.{ℕ, ◌+◌, ◌-◌, ◌*◌, ◌/◌, ◌%◌, max, min, nat_lt, List, [], ◌∷◌, if◌then◌else◌}
use Rattle.plot_page.specs.declared.colour.Colour.{Colour}
use Rattle.dxf.specs.declared.colours.Nearest.{Nearest}
use Rattle.dxf.specs.declared.colours.TheConstants.{FARTHEST}
use Rattle.dxf.specs.declared.palette.TheConstants.{COLOURS}

-- the square of the difference of two numbers
abbrev pub square_between : ℕ → ℕ → ℕ
square_between a b = (max a b - min a b) * (max a b - min a b)

-- the sum of the squares of the differences in red, green and blue, from a colour to one of the form 0xRRGGBB
abbrev pub distance : Colour → ℕ → ℕ
distance c n =
    square_between c.red (n / 65536 % 256) + square_between c.green (n / 256 % 256) + square_between c.blue (n % 256)

-- the nearer of two numbers, the first one if neither is nearer
abbrev pub nearer : Nearest → Nearest → Nearest
nearer best next = if nat_lt next.distance best.distance then next else best

-- the nearest of the best number so far, and of these colours, which have the numbers from this one on
abbrev pub nearest_after : Colour → Nearest → ℕ → List ℕ → Nearest
nearest_after c best number [] = best
nearest_after c best number (n ∷ ns) =
    nearest_after c (nearer best (record { number = number; distance = distance c n })) (number + 1) ns

-- the nearest of colours that have the numbers from 1 on, the first one of several that are as near
abbrev pub nearest_of : Colour → List ℕ → Nearest
nearest_of c ns = nearest_after c (record { number = 1; distance = FARTHEST }) 1 ns

abbrev pub colour_number : Colour → ℕ
colour_number c = (nearest_of c COLOURS).number
