-- Which numbers make a stroke.
use Rattle.std.specs.Prelude.{ℕ, ◌≤◌, ℤ, pos, int_le, nat_abs, nat_le, Bool, ◌&&◌, ◌≤ℤ◌}
use Rattle.plot_page.specs.declared.stroke.TheConstants.{GREATEST_WIDTH, FARTHEST_PLACE, FARTHEST_EDGE}
use Rattle.plot_page.specs.declared.window.Window.{Window}
use Rattle.plot_page.specs.Segments.{Segment, is_end, is_far_end}

-- a corner of a window lies on the greatest page of the profile core
abbrev pub is_on_page : ℤ → Bool
is_on_page z = int_le (pos 0) z && int_le z (pos FARTHEST_PLACE)

abbrev pub is_corner : ℤ → ℤ → Bool
is_corner x y = is_on_page x && is_on_page y

abbrev pub is_window : Window → Bool
is_window w = is_corner w.x0 w.y0 && is_corner w.x1 w.y1

-- a pen from 1 on, and a width of at most 20 mm (12,800 grains)
abbrev pub is_drawn_with : ℕ → ℕ → Bool
is_drawn_with pen width = nat_le 1 pen && nat_le width GREATEST_WIDTH

-- a corner of a window lies on the longest page
abbrev pub is_on_roll : ℤ → Bool
is_on_roll z = int_le (pos 0) z && int_le z (pos FARTHEST_EDGE)

abbrev pub is_roll_window : Window → Bool
is_roll_window w = (is_on_roll w.x0 && is_on_roll w.y0) && (is_on_roll w.x1 && is_on_roll w.y1)

-- the numbers make a stroke of the profile core
abbrev pub is_stroke : Segment → Bool
is_stroke s = is_drawn_with s.pen s.width && (is_window s.window && (is_end s.ax s.ay && is_end s.bx s.by))

-- the numbers make a stroke
abbrev pub is_far_stroke : Segment → Bool
is_far_stroke s =
    is_drawn_with s.pen s.width && (is_roll_window s.window && (is_far_end s.ax s.ay && is_far_end s.bx s.by))

-- the same, fact by fact
pub record IsStroke (s : Segment) : Type 0 where
  pub pen : 1 ≤ s.pen
  pub width : s.width ≤ 12800
  pub x0 : nat_abs s.window.x0 ≤ 8388608
  pub y0 : nat_abs s.window.y0 ≤ 8388608
  pub x1 : nat_abs s.window.x1 ≤ 8388608
  pub y1 : nat_abs s.window.y1 ≤ 8388608
  pub x0_from : pos 0 ≤ℤ s.window.x0
  pub y0_from : pos 0 ≤ℤ s.window.y0
  pub x1_from : pos 0 ≤ℤ s.window.x1
  pub y1_from : pos 0 ≤ℤ s.window.y1
  pub ax : nat_abs s.ax ≤ 134217712
  pub ay : nat_abs s.ay ≤ 134217712
  pub bx : nat_abs s.bx ≤ 134217712
  pub by : nat_abs s.by ≤ 134217712
