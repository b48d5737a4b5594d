-- Colours.
use Rattle.std.specs.Prelude.{nat_eq, Bool, ◌&&◌}
use Rattle.plot_page.specs.declared.colour.Colour.{Colour}

abbrev pub is_white : Colour → Bool
is_white c = nat_eq c.red 255 && (nat_eq c.green 255 && nat_eq c.blue 255)
