-- Where an image lies on a page. Rows run along y, and each next row lies further in x.
use Rattle.std.specs.Prelude.{ℕ, ◌+◌, ◌-◌, ◌*◌, ◌/◌, ℤ, pos, neg_ℤ, ◌+ℤ◌, List, [], ◌∷◌, length, get_or}
use Rattle.std.specs.Int.{int_max, int_min}
use Rattle.page_fit.specs.Moves.{page_window}
use Rattle.plot_page.specs.declared.page.Page.{Page}
use Rattle.plot_page.specs.declared.stroke.TheConstants.{FARTHEST_END}
use Rattle.plot_page.specs.Segments.{Segment}
use Rattle.raster_graphics.specs.declared.image.Image.{Image}
use Rattle.raster_graphics.specs.declared.place.TheConstants.{GRAINS}

-- how many rows an image has: the number after that of the last one that was sent
abbrev pub row_count : List ℕ → ℕ
row_count [] = 0
row_count (number ∷ numbers) = get_or (number ∷ numbers) (length numbers) 0 + 1

-- how far so many rows, or dots of a row, reach at a resolution, in grains, rounded up
abbrev pub reach : ℕ → ℕ → ℕ
reach density count = (GRAINS * count + density - 1) / density

-- a number of a place, or the nearest one that an end of a stroke may have; images of a plot lie in this range
abbrev pub in_range : ℤ → ℤ
in_range z = int_max (neg_ℤ (pos FARTHEST_END)) (int_min z (pos FARTHEST_END))

-- where they end that begin there
abbrev pub far_end : ℕ → ℤ → ℕ → ℤ
far_end density from count = in_range (from +ℤ pos (reach density count))

-- a stroke without a width, of the pen that the carousel begins with, from the image's corner to the one after its last dot
abbrev pub frame : Page → Image → Segment
frame page image = record {
  pen = 1;
  colour = record { red = 0; green = 0; blue = 0 };
  width = 0;
  window = page_window page;
  ax = in_range image.corner.x;
  ay = in_range image.corner.y;
  bx = far_end image.settings.resolution image.corner.x (row_count image.numbers);
  by = far_end image.settings.resolution image.corner.y image.width;
}
