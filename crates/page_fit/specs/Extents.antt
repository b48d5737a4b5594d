-- How far strokes reach, in grains from the lower left corner of the page that they are drawn on.
use Rattle.std.specs.Prelude.{ℕ, ◌+◌, ◌*◌, ◌/◌, ◌≤◌, ◌^◌, ◌&&◌, ◌||◌, not, Bool, pos, ◌+ℤ◌, ◌-ℤ◌, int_le, int_lt, nat_abs, List}
use Rattle.std.specs.Prelude.{Option, Some, None, fold, if◌then◌else◌}
use Rattle.std.specs.Option.{option_map_or}
use Rattle.std.specs.Int.{int_max, int_min}
use Rattle.plot_page.specs.Segments.{Segment}
use Rattle.plot_page.specs.Pens.{has_pen}
use Rattle.plot_page.specs.declared.page.Page.{Page}
use Rattle.plot_page.specs.declared.pens.PenSet.{PenSet}
use Rattle.plot_page.specs.declared.window.Window.{Window}
use Rattle.page_fit.specs.declared.extent.Extent.{Extent}

-- half the width of a stroke, in grains
abbrev pub half_width : Segment → ℕ
half_width s = (s.width + 1) / 2

-- how far a stroke reaches with half its width; no window cuts it
abbrev pub reach : Segment → Extent
reach s = record {
  least_x = int_min s.ax s.bx -ℤ pos (half_width s);
  least_y = int_min s.ay s.by -ℤ pos (half_width s);
  greatest_x = int_max s.ax s.bx +ℤ pos (half_width s);
  greatest_y = int_max s.ay s.by +ℤ pos (half_width s);
}

-- what of an extent lies in a window
abbrev pub cut_to : Window → Extent → Extent
cut_to w e = record {
  least_x = int_max e.least_x w.x0;
  least_y = int_max e.least_y w.y0;
  greatest_x = int_min e.greatest_x w.x1;
  greatest_y = int_min e.greatest_y w.y1;
}

-- the window is the whole page, which has 16 grains a plotter unit, or more
abbrev pub holds_page : Page → Window → Bool
holds_page page w =
    int_le w.x0 (pos 0) && int_le (pos (16 * page.width)) w.x1
    && (int_le w.y0 (pos 0) && int_le (pos (16 * page.height)) w.y1)

-- how far a stroke is seen; the edges of the page cut nothing
abbrev pub seen : Page → Segment → Extent
seen page s = if holds_page page s.window then reach s else cut_to s.window (reach s)

-- an extent holds no place
abbrev pub is_empty : Extent → Bool
is_empty e = int_lt e.greatest_x e.least_x || int_lt e.greatest_y e.least_y

-- what holds two extents
abbrev pub joined : Extent → Extent → Extent
joined a b = record {
  least_x = int_min a.least_x b.least_x;
  least_y = int_min a.least_y b.least_y;
  greatest_x = int_max a.greatest_x b.greatest_x;
  greatest_y = int_max a.greatest_y b.greatest_y;
}

-- what holds an extent, if there is one, and another
abbrev pub joined_with : Option Extent → Extent → Extent
joined_with found more = option_map_or (λ e. joined e more) found more

-- with a stroke, if its pen is selected and something of it is seen
abbrev pub with_stroke : PenSet → Page → Option Extent → Segment → Option Extent
with_stroke pens page found s =
    if has_pen pens s.pen && not (is_empty (seen page s)) then Some (joined_with found (seen page s)) else found

-- how far the strokes of the selected pens are seen; None if nothing is
abbrev pub extent_of : PenSet → Page → List Segment → Option Extent
extent_of pens page strokes = fold (with_stroke pens page) None strokes

-- no place is farther from the corner than a stroke reaches
pub record IsNear (e : Extent) : Type 0 where
  pub least_x : nat_abs e.least_x ≤ 2 ^ 28
  pub least_y : nat_abs e.least_y ≤ 2 ^ 28
  pub greatest_x : nat_abs e.greatest_x ≤ 2 ^ 28
  pub greatest_y : nat_abs e.greatest_y ≤ 2 ^ 28
