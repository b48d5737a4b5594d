-- Which pixels of a page of 64 by 64 plotter units a square area has inside, at 127 dots per inch: a pixel is 128 grains, and
-- the centre of the first one is 64 grains from the edges of the page.
use Rattle.std.proofs.Common.{◌≡◌, ℕ, ℤ, pos, Bool, true, false, nat_le, List, [], ◌∷◌, refl, lit≤}
use Rattle.exact.proofs.Tables.{Agree}
use Rattle.plot_page.specs.Segments.{Segment}
use Rattle.plot_page.specs.declared.dots.Dots.{Dots}
use Rattle.plot_page.specs.declared.page.Page.{Page}
use Rattle.plot_page.specs.declared.window.Window.{Window}
use Rattle.polygons.specs.declared.lines.Rule.TheVariants.{OddCounts}
use Rattle.areas.specs.declared.area.Area.{Area}
use Rattle.stroke_raster.specs.ShownShapes.{area_at, is_filled, last_at, reaches_with, stroke_at}

abbrev page : Page
page = record { width = 64; height = 64; left = 0; below = 0; width_in = (lit≤ tt, lit≤ tt); height_in = (lit≤ tt, lit≤ tt); left_in = lit≤ tt; below_in = lit≤ tt }

abbrev dots : Dots
dots = record { resolution = 127; at_least = lit≤ tt; at_most = lit≤ tt }

abbrev window_to : ℤ → Window
window_to x = record { x0 = pos 0; y0 = pos 0; x1 = x; y1 = pos 1024 }

abbrev edge : ℤ → ℤ → ℤ → ℤ → Segment
edge ax ay bx by = record {
  pen = 1;
  colour = record { red = 0; green = 0; blue = 0 };
  width = 0;
  window = window_to (pos 1024);
  ax = ax;
  ay = ay;
  bx = bx;
  by = by;
}

abbrev edges : List Segment
edges =
    edge (pos 256) (pos 256) (pos 768) (pos 256)
    ∷ edge (pos 768) (pos 256) (pos 768) (pos 768)
    ∷ edge (pos 768) (pos 768) (pos 256) (pos 768)
    ∷ edge (pos 256) (pos 768) (pos 256) (pos 256)
    ∷ []

abbrev areas : List Area
areas = record { first = 0; end = 4; rule = OddCounts } ∷ []

-- by the position of a stroke, in a window up to some place
abbrev filled : ℕ → ℤ → ℕ → ℕ → Bool
filled position x row column = is_filled (window_to x) (area_at edges areas position) page dots row column

-- what strokes reach is left out
abbrev shown : ℕ → ℕ → ℕ → Bool
shown position row column =
    reaches_with (λ s page dots row column. false) (stroke_at edges position) (area_at edges areas position) page dots row column

of_a_square : Agree (
    (filled 4 (pos 1024) 2 2, true)
    ∷ (filled 4 (pos 1024) 5 5, true)
    ∷ (filled 4 (pos 1024) 1 3, false)  -- above it
    ∷ (filled 4 (pos 1024) 3 6, false)  -- right of it
    ∷ (filled 4 (pos 512) 3 3, true)
    ∷ (filled 4 (pos 512) 3 4, false)  -- past the window
    ∷ (filled 3 (pos 1024) 3 3, false)  -- no area ends with the third edge
    ∷ (shown 4 3 3, true)
    ∷ [])
of_a_square = refl

-- the last of four positions up to the second is the second
last_position : last_at (λ position. nat_le position 2) 4 ≡ 2
last_position = refl

no_position : last_at (λ position. false) 4 ≡ 0
no_position = refl
