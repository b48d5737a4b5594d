-- A carousel with a width of one pen and a colour of another.
use Rattle.std.proofs.Common.{◌≡◌, refl, ◌≤◌, lit≤, ℕ, Option, None, Some, set}
use Rattle.std.proofs.lemmas.List.Elements.{All-set}
use Rattle.std.proofs.lemmas.Option.{same_Some}
use Rattle.std.specs.Option.{ForSome}
use Rattle.std.proofs.Common.{subst}
use Rattle.plot_page.specs.declared.colour.Colour.{Colour}
use Rattle.carousel.specs.declared.carousel.Carousel.{Carousel}
use Rattle.carousel.specs.Carousels.{empty, width_of, colour_of}

-- a width in its range
pub said : (width : ℕ) → width ≤ 12800 → ForSome (Some width) (λ grains. grains ≤ 12800)
said width h grains e = subst (λ (n : ℕ). n ≤ 12800) (same_Some width grains e) h

-- one more width
abbrev pub with_width : Carousel → ℕ → (width : ℕ) → width ≤ 12800 → Carousel
with_width c pen width h = record {
  widths = set c.widths pen (Some width);
  colours = c.colours;
  widths_in = All-set (λ (w : Option ℕ). ForSome w (λ grains. grains ≤ 12800)) c.widths pen (Some width) (said width h) c.widths_in;
}

-- one more colour
abbrev pub with_colour : Carousel → ℕ → Colour → Carousel
with_colour c pen colour = record { widths = c.widths; colours = set c.colours pen (Some colour); widths_in = c.widths_in }

abbrev orange : Colour
orange = record { red = 255; green = 165; blue = 0 }

abbrev pub fine_and_orange : Carousel
fine_and_orange = with_colour (with_width empty 2 64 (lit≤ tt)) 3 orange

fine : width_of fine_and_orange 2 ≡ Some 64
unfolding empty
fine = refl

without_width : width_of fine_and_orange 3 ≡ None
unfolding empty
without_width = refl

coloured : colour_of fine_and_orange 3 ≡ Some orange
unfolding empty
coloured = refl

without_colour : colour_of fine_and_orange 2 ≡ None
unfolding empty
without_colour = refl
