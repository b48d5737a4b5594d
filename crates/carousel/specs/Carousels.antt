-- The widths, in grains, and the colours of pens that the user says.
use Rattle.std.specs.Prelude.{ℕ, Option, None, replicate, ◌≤◌}
use Rattle.std.specs.List.{slice_index_or}
use Rattle.std.specs.Option.{ForSome}
use Rattle.plot_page.specs.declared.colour.Colour.{Colour}
use Rattle.plot_page.specs.declared.stroke.TheConstants.{GREATEST_WIDTH}
use Rattle.std.proofs.lemmas.List.Elements.{All-replicate}
use Rattle.std.proofs.lemmas.Option.{none-some}
use Rattle.carousel.specs.declared.carousel.Carousel.{Carousel}

-- of a pen, or None where the user does not say it
abbrev pub width_of : Carousel → ℕ → Option ℕ
width_of carousel pen = slice_index_or carousel.widths pen None

abbrev pub colour_of : Carousel → ℕ → Option Colour
colour_of carousel pen = slice_index_or carousel.colours pen None

-- no width is in its range
pub nothing_said : ForSome {T = ℕ} None (λ grains. grains ≤ GREATEST_WIDTH)
nothing_said grains h = absurd (none-some grains h)

-- of no pen; not opened in proofs, where 256 places would be written out
unfoldable pub empty : Carousel
empty = record {
  widths = replicate 256 None;
  colours = replicate 256 None;
  widths_in = All-replicate (λ (width : Option ℕ). ForSome width (λ grains. grains ≤ GREATEST_WIDTH)) 256 None nothing_said;
}
