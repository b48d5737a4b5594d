-- The pixels that an area fills in its window.
use Rattle.std.specs.Prelude.{ℕ, ℤ, ◌≤◌, ◌^◌, ◌≤ℤ◌, Bool, nat_abs, Some}
use Rattle.plot_page.specs.declared.window.Window.{Window}
use Rattle.areas.specs.Sweeps.{Follows}
use Rattle.areas.specs.declared.sweep.AreaSweep.{AreaSweep}
use Rattle.stroke_raster.specs.Covers.{centre}
use Rattle.stroke_raster.specs.ShownShapes.{is_filled}
use Rattle.stroke_raster.specs.declared.placed_area.PlacedArea.{PlacedArea}

-- the centre of a pixel is in the window, and inside
abbrev pub fills : PlacedArea → ℕ → ℕ → Bool
fills area row column = is_filled area.window (record { strokes = area.edges.now; rule = Some area.rule }) area.page area.dots row column

-- the corners of a window are near the page
pub record IsNear (w : Window) : Type 0 where
  pub x0 : nat_abs w.x0 ≤ 2 ^ 23
  pub y0 : nat_abs w.y0 ≤ 2 ^ 23
  pub x1 : nat_abs w.x1 ≤ 2 ^ 23
  pub y1 : nat_abs w.y1 ≤ 2 ^ 23

-- how high the centres of a row are
abbrev pub height_of : PlacedArea → ℕ → ℤ
height_of area row = (centre area.page.height area.dots.resolution row 0).y

-- a sweep has the edges of an area that rows from this one on, down to a height, pass
abbrev pub FollowsIn : PlacedArea → ℤ → ℕ → AreaSweep → Type 0
FollowsIn area bottom row sweep = Follows area.dots.resolution area.edges.now bottom (height_of area row) sweep

-- and this row is not below that height
pub record IsFollowing (area : PlacedArea) (row : ℕ) (sweep : AreaSweep) : Type 0 where
  pub bottom : ℤ
  pub above : bottom ≤ℤ height_of area row
  pub follows : FollowsIn area bottom row sweep
