-- The colours of pens. The first eight are those that the guide gives a palette of eight pens; black for all others is
-- our choice.
use Rattle.std.specs.Prelude.{ℕ, List, [], ◌∷◌, ◌++◌, replicate, slice_index_or}
use Rattle.plot_page.specs.declared.colour.Colour.{Colour}

abbrev pub rgb : ℕ → ℕ → ℕ → Colour
rgb red green blue = record { red = red; green = green; blue = blue }

abbrev pub black : Colour
black = rgb 0 0 0

-- pens 0 to 7: white, black, red, green, yellow, blue, magenta and cyan
abbrev pub first_colours : List Colour
first_colours =
    rgb 255 255 255 ∷ rgb 0 0 0 ∷ rgb 255 0 0 ∷ rgb 0 255 0
    ∷ rgb 255 255 0 ∷ rgb 0 0 255 ∷ rgb 255 0 255 ∷ rgb 0 255 255 ∷ []

-- the default colour of a pen
abbrev pub default_colour : ℕ → Colour
default_colour pen = slice_index_or first_colours pen black

-- those of pens 0 to 255 in a list; not opened in proofs, where 256 places would be written out
unfoldable pub default_colours : List Colour
default_colours = first_colours ++ replicate 248 black
