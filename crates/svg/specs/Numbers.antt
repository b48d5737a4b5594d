-- Numbers and colours in an SVG document.
use Rattle.std.specs.Prelude.{ℕ, ◌*◌, ◌/◌, ◌%◌, List, [], ◌∷◌, ◌++◌, false, decimal}
use Rattle.std.specs.Fmt.{digit_glyph}
use Rattle.pieces.specs.Fractions.{fraction}
use Rattle.plot_page.specs.declared.colour.Colour.{Colour}

-- a length of so many plotter units in millimetres: a unit is 25 thousandths
abbrev pub millimetres : ℕ → List ℕ
millimetres units = decimal (units / 40) ++ fraction (25 * (units % 40))

-- a byte as two hexadecimal digits, in lower case
abbrev pub two_digits : ℕ → List ℕ
two_digits byte = digit_glyph false (byte / 16) ∷ digit_glyph false (byte % 16) ∷ []

-- red, green and blue, two digits each
abbrev pub colour_digits : Colour → List ℕ
colour_digits c = two_digits c.red ++ two_digits c.green ++ two_digits c.blue
