-- The colour that a pen has on the page, and pens that draw nothing. What the profile full sets of it by TR and SV is off in
-- the profile core.
use Rattle.std.specs.Prelude.{ℕ, ◌+◌, ◌-◌, ◌*◌, ◌/◌, nat_eq, Bool, ◌&&◌, ◌||◌, Option, Some, None, unwrap_or, slice_index_or}
use Rattle.carousel.specs.Carousels.{colour_of}
use Rattle.plot_page.specs.declared.colour.Colour.{Colour}
use Rattle.plot_page.specs.Colours.{is_white}
use Rattle.plot_settings.specs.Colours.{black}
use Rattle.hpgl_plot.specs.declared.state.State.{State}

-- the colour of the pen that is selected: that which the user says, or else the most recent one of the plot
abbrev pub own_colour : State → Colour
own_colour s = unwrap_or (colour_of s.carousel s.pen) (slice_index_or s.colours s.pen black)

-- a part of a colour, of whose distance from white only a level is left, in millionths of a percent: rounded, half up
abbrev pub screened_part : ℕ → ℕ → ℕ
screened_part level part = 255 - ((255 - part) * level + 50000000) / 100000000

-- a colour as SV screens it, or as it is
abbrev pub screened : Option ℕ → Colour → Colour
screened None c = c
screened (Some level) c = record {
  red = screened_part level c.red;
  green = screened_part level c.green;
  blue = screened_part level c.blue;
}

abbrev pub pen_colour : State → Colour
pen_colour s = screened s.screen (own_colour s)

-- areas are not screened
abbrev pub unscreened : State → State
unscreened s = record s { screen = None }

-- pen 0 draws nothing, nor does a white one if TR hides it
abbrev pub draws_nothing : State → Bool
draws_nothing s = nat_eq s.pen 0 || (s.hides_white && is_white (pen_colour s))
