-- The numbers of strokes.
use Rattle.std.specs.Prelude.{◌≤◌, ◌<◌, nat_abs}
use Rattle.plot_page.specs.Segments.{Segment}
use Rattle.plot_page.specs.declared.stroke.TheConstants.{FARTHEST_END, GREATEST_WIDTH}

-- the numbers of a stroke are in their ranges
pub record IsInRange (s : Segment) : Type 0 where
  pub pen : s.pen < 256
  pub red : s.colour.red < 256
  pub green : s.colour.green < 256
  pub blue : s.colour.blue < 256
  pub width : s.width ≤ GREATEST_WIDTH
  pub x0 : nat_abs s.window.x0 ≤ FARTHEST_END
  pub y0 : nat_abs s.window.y0 ≤ FARTHEST_END
  pub x1 : nat_abs s.window.x1 ≤ FARTHEST_END
  pub y1 : nat_abs s.window.y1 ≤ FARTHEST_END
  pub ax : nat_abs s.ax ≤ FARTHEST_END
  pub ay : nat_abs s.ay ≤ FARTHEST_END
  pub bx : nat_abs s.bx ≤ FARTHEST_END
  pub by : nat_abs s.by ≤ FARTHEST_END
