-- The page around a drawing.
use Rattle.std.specs.Prelude.{ℕ, ◌+◌, ◌*◌, ◌/◌, ℤ, pos, ◌+ℤ◌, ◌-ℤ◌, ◌*ℤ◌, int_le, nat_abs, nat_le, max, Bool, Option, Some, None, ◌&&◌}
use Rattle.std.specs.Prelude.{if◌then◌else◌}
use Rattle.std.specs.Int.{int_div_euclid}
use Rattle.plot_page.specs.Pages.{has_page_corner}
use Rattle.plot_page.specs.declared.page.Page.{Page}
use Rattle.plot_page.specs.declared.page.TheConstants.{SHORTEST_SIDE}
use Rattle.page_fit.specs.declared.extent.Extent.{Extent}
use Rattle.page_fit.specs.declared.around.Corner.{Corner}

-- the numbers of a page, in plotter units
pub record Sides : Type 0 where
  pub width : ℕ
  pub height : ℕ
  pub left : ℕ
  pub below : ℕ

abbrev pub sides_of : Page → Sides
sides_of page = record { width = page.width; height = page.height; left = page.left; below = page.below }

-- where a side lies from which a margin in millimetres is left free to `least`, in plotter units; a millimetre has 640 grains,
-- and a plotter unit 16
abbrev pub side_at : ℕ → ℤ → ℤ
side_at margin least = int_div_euclid (least -ℤ pos (640 * margin)) (pos 16)

-- the least number of whole plotter units that hold some grains; none if these are below 0
abbrev pub units_for : ℤ → ℕ
units_for grains = if int_le (pos 0) grains then (nat_abs grains + 15) / 16 else 0

-- how long the side is, if a drawing reaches from `least` to `greatest`
abbrev pub length_for : ℕ → ℤ → ℤ → ℕ
length_for margin least greatest =
    max SHORTEST_SIDE (units_for (greatest +ℤ pos (640 * margin) -ℤ pos 16 *ℤ side_at margin least))

-- the lower left corner of the page around a drawing, in plotter units from that of the page that it was drawn on
abbrev pub corner_around : ℕ → Extent → Corner
corner_around margin e = record { x = side_at margin e.least_x; y = side_at margin e.least_y }

-- a side of a page that is at most so long
abbrev pub is_side : ℕ → ℕ → Bool
is_side longest units = nat_le SHORTEST_SIDE units && nat_le units longest

-- a page whose sides are at most so long may have these numbers
abbrev pub checked : ℕ → Sides → Option Sides
checked longest s =
    if (is_side longest s.width && is_side longest s.height) && has_page_corner s.left s.below then Some s else None

-- the numbers of the least page that holds a drawing with a margin around it, with its corner at (0, 0); None if a side is longer
-- than the longest one
abbrev pub sides_around : ℕ → ℕ → Extent → Option Sides
sides_around longest margin e = checked longest (record {
  width = length_for margin e.least_x e.greatest_x;
  height = length_for margin e.least_y e.greatest_y;
  left = 0;
  below = 0;
})
