-- The dots of an image that is done.
use Rattle.std.specs.Prelude.{ℕ, ◌*◌, nat_lt, ◌==◌, Bool, ◌&&◌, ◌||◌, not, drop, Option, Some, None, option_map, if◌then◌else◌}
use Rattle.plot_page.specs.declared.colour.Colour.{Colour}
use Rattle.plot_page.specs.Colours.{is_white}
use Rattle.image_colours.specs.Counts.{plane_count}
use Rattle.image_colours.specs.Dots.{colour_of}
use Rattle.raster_graphics.specs.declared.image.Image.{Image}
use Rattle.raster_graphics.specs.Positions.{position_of}

-- the colour of a dot of the row at a position among those that were sent
abbrev pub colour_in : Image → ℕ → ℕ → Colour
colour_in image position column =
    colour_of image.settings.coding image.settings.palette (drop (position * plane_count image.settings.coding) image.planes) column

-- the colour of a dot, if its row was sent, and has it
abbrev pub colour_at : Image → ℕ → ℕ → Option Colour
colour_at image row column =
    if nat_lt column image.width
    then option_map (λ position. colour_in image position column) (position_of row image.numbers)
    else None

-- the colour that an image shows there: white only if it is opaque
abbrev pub if_shown : Bool → Option Colour → Option Colour
if_shown is_opaque None = None
if_shown is_opaque (Some colour) = if is_opaque || not (is_white colour) then Some colour else None

abbrev pub shown_at : Image → ℕ → ℕ → Option Colour
shown_at image row column = if_shown image.settings.is_opaque (colour_at image row column)
