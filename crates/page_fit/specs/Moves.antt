-- Strokes moved from the page that they were drawn on to the page around the drawing.
use Rattle.std.specs.Prelude.{◌*◌, ◌^◌, ◌≤◌, ◌||◌, ◌&&◌, not, pos, ℤ, ◌-ℤ◌, ◌*ℤ◌, int_lt, nat_abs, Bool, List, map, ◌≤ℤ◌}
use Rattle.std.specs.Prelude.{if◌then◌else◌}
use Rattle.std.specs.Int.{int_max, int_min}
use Rattle.std.specs.List.{list_all}
use Rattle.plot_page.specs.Segments.{Segment, is_far_end}
use Rattle.plot_page.specs.Pens.{has_pen}
use Rattle.plot_page.specs.declared.page.Page.{Page}
use Rattle.plot_page.specs.declared.stroke.TheConstants.{FARTHEST_EDGE}
use Rattle.plot_page.specs.declared.pens.PenSet.{PenSet}
use Rattle.plot_page.specs.declared.window.Window.{Window}
use Rattle.page_fit.specs.declared.around.Corner.{Corner}
use Rattle.page_fit.specs.Extents.{holds_page}

-- a number of a place in grains, from a side that lies so many plotter units farther
abbrev pub moved : ℤ → ℤ → ℤ
moved side z = z -ℤ pos 16 *ℤ side

-- the window that is the page itself
abbrev pub page_window : Page → Window
page_window page = record { x0 = pos 0; y0 = pos 0; x1 = pos (16 * page.width); y1 = pos (16 * page.height) }

-- the window that holds no place
abbrev pub empty_window : Window
empty_window = record { x0 = pos 1; y0 = pos 1; x1 = pos 0; y1 = pos 0 }

-- what of a window is on a page
abbrev pub window_on : Page → Window → Window
window_on page w =
    let x0 = int_max w.x0 (pos 0) in
    let y0 = int_max w.y0 (pos 0) in
    let x1 = int_min w.x1 (pos (16 * page.width)) in
    let y1 = int_min w.y1 (pos (16 * page.height)) in
    if int_lt x1 x0 then empty_window else
    if int_lt y1 y0 then empty_window else
    record { x0 = x0; y0 = y0; x1 = x1; y1 = y1 }

abbrev pub shifted : Corner → Window → Window
shifted c w = record { x0 = moved c.x w.x0; y0 = moved c.y w.y0; x1 = moved c.x w.x1; y1 = moved c.y w.y1 }

-- a window of the page that a stroke was drawn on, on the page around the drawing: the whole page is this page, and
-- another window is moved and cut to it
abbrev pub moved_window : Page → Corner → Page → Window → Window
moved_window page c around w =
    if holds_page page w then page_window around else window_on around (shifted c w)

-- a stroke, moved
abbrev pub moved_stroke : Page → Corner → Page → Segment → Segment
moved_stroke page c around s = record {
  pen = s.pen;
  colour = s.colour;
  width = s.width;
  window = moved_window page c around s.window;
  ax = moved c.x s.ax;
  ay = moved c.y s.ay;
  bx = moved c.x s.bx;
  by = moved c.y s.by;
}

-- the same if its pen is selected; else it stays as it is
abbrev pub moved_if_selected : PenSet → Page → Corner → Page → Segment → Segment
moved_if_selected pens page c around s = if has_pen pens s.pen then moved_stroke page c around s else s

-- all strokes of the selected pens, moved
abbrev pub moved_strokes : PenSet → Page → Corner → Page → List Segment → List Segment
moved_strokes pens page c around strokes = map (moved_if_selected pens page c around) strokes

-- both ends of a stroke are places when they are moved
abbrev pub is_movable : Corner → Segment → Bool
is_movable c s = is_far_end (moved c.x s.ax) (moved c.y s.ay) && is_far_end (moved c.x s.bx) (moved c.y s.by)

-- those of all strokes of the selected pens are
abbrev pub are_movable : PenSet → Corner → List Segment → Bool
are_movable pens c strokes = list_all (λ s. not (has_pen pens s.pen) || is_movable c s) strokes

-- the corner of a page is no farther from that of another one than the greatest margin
pub record IsCornerNear (c : Corner) : Type 0 where
  pub x_in : nat_abs c.x ≤ 2 ^ 40
  pub y_in : nat_abs c.y ≤ 2 ^ 40

-- no edge of a window lies off the longest page
pub record IsOnPage (w : Window) : Type 0 where
  pub x0_from : pos 0 ≤ℤ w.x0
  pub y0_from : pos 0 ≤ℤ w.y0
  pub x1_from : pos 0 ≤ℤ w.x1
  pub y1_from : pos 0 ≤ℤ w.y1
  pub x0_to : w.x0 ≤ℤ pos FARTHEST_EDGE
  pub y0_to : w.y0 ≤ℤ pos FARTHEST_EDGE
  pub x1_to : w.x1 ≤ℤ pos FARTHEST_EDGE
  pub y1_to : w.y1 ≤ℤ pos FARTHEST_EDGE
