-- Strokes as contracts see them: whole numbers, places in grains (1/16 plotter unit) from the page's lower left corner.
use Rattle.std.specs.Prelude.{ℕ, ℤ, nat_abs, nat_le, Bool, ◌&&◌}
use Rattle.plot_page.specs.declared.colour.Colour.{Colour}
use Rattle.plot_page.specs.declared.stroke.TheConstants.{FARTHEST_PLACE, FARTHEST_END}
use Rattle.plot_page.specs.declared.window.Window.{Window}

-- a straight line from one end to the other, with its pen, its colour, its width in grains and the window that it is
-- seen in
pub record Segment : Type 0 where
  pub pen : ℕ
  pub colour : Colour
  pub width : ℕ
  pub window : Window
  pub ax : ℤ
  pub ay : ℤ
  pub bx : ℤ
  pub by : ℤ

-- a place within 65,536 plotter units of the page's lower left corner, in x and in y: one of the profile core
abbrev pub is_end : ℤ → ℤ → Bool
is_end x y = nat_le (nat_abs x) FARTHEST_PLACE && nat_le (nat_abs y) FARTHEST_PLACE

-- an end of any stroke: a place within 8,388,607 plotter units of that corner, in x and in y
abbrev pub is_far_end : ℤ → ℤ → Bool
is_far_end x y = nat_le (nat_abs x) FARTHEST_END && nat_le (nat_abs y) FARTHEST_END
