-- All that holds before a step, and in it the pen's position, by recursion on the steps before it, the newest first,
-- since a relative move goes on from where the pen is. That a good IP, SC, RO or DF recomputes the pen's coordinates
-- from its place is our choice; the guide does not say.
use Rattle.std.specs.Prelude.{pos, false, List, [], ◌∷◌, None}
use Rattle.plot_page.specs.declared.page.Page.{Page}
use Rattle.hpgl_plot.specs.declared.state.Frame.{Frame}
use Rattle.hpgl_plot.specs.declared.state.Position.{Position}
use Rattle.exact.specs.declared.spot.Spot.{Spot}
use Rattle.hpgl_plot.specs.declared.state.State.{State}
use Rattle.plot_settings.specs.declared.setting.Setting.{Setting}
use Rattle.plot_settings.specs.declared.setting.Setting.TheVariants.{Start, Defaults, PageCorners, FirstPoint}
use Rattle.plot_settings.specs.declared.setting.Setting.TheVariants.{BothPoints, Scale, Rotate, PageWindow}
use Rattle.plot_settings.specs.declared.setting.Setting.TheVariants.{CornerWindow, Pen, Width, WidthOfAll, PenColour}
use Rattle.plot_settings.specs.declared.setting.Setting.TheVariants.{DefaultColours, Size, Direction}
use Rattle.plot_settings.specs.Meanings.{Step, Set}
use Rattle.plot_settings.specs.Settings.{pen, is_down, is_relative, widths, colours, carousel, size, direction}
use Rattle.hpgl_plot.specs.Frames.{frame, window}
use Rattle.hpgl_plot.specs.Paths.{pen_at, pen_placed, path}

-- the place stays, and its coordinates are recomputed
abbrev pub recomputed : Page → Frame → Position → Position
recomputed page f p = pen_placed page f p.place

abbrev pub origin : Spot
origin = record { x = pos 0; y = pos 0 }

-- after a setting, with the frame after it
abbrev pub pen_with : Page → Frame → Setting → Position → Position
pen_with page f Start p = pen_at page f origin
pen_with page f Defaults p = recomputed page f p
pen_with page f PageCorners p = recomputed page f p
pen_with page f (FirstPoint x y) p = recomputed page f p
pen_with page f (BothPoints q) p = recomputed page f p
pen_with page f (Scale s) p = recomputed page f p
pen_with page f (Rotate r) p = recomputed page f p
pen_with page f PageWindow p = p
pen_with page f (CornerWindow c) p = p
pen_with page f (Pen n) p = p
pen_with page f (Width n w) p = p
pen_with page f (WidthOfAll w) p = p
pen_with page f (PenColour n c) p = p
pen_with page f DefaultColours p = p
pen_with page f (Size s) p = p
pen_with page f (Direction d) p = p

-- all that holds before a step, with the pen at a position
abbrev pub state_with : Page → List Step → Position → State
state_with page before p = record {
  frame = frame page before;
  window = window page before;
  widths = widths before;
  colours = colours before;
  carousel = carousel before;
  size = size before;
  direction = direction before;
  pen = pen before;
  is_down = is_down before;
  is_relative = is_relative before;
  screen = None;
  hides_white = false;
  place = p.place;
  coordinates = p.coordinates;
}

abbrev pub pen_after : Page → List Step → Step → Position → Position
pen_after page before (Set s) p = pen_with page (frame page (Set s ∷ before)) s p
pen_after page before s p = (path page (state_with page before p) s).ends

-- at the start the pen is at the coordinates (0, 0)
abbrev pub pen_before : Page → List Step → Position
pen_before page [] = pen_at page (frame page []) origin
pen_before page (s ∷ before) = pen_after page before s (pen_before page before)

abbrev pub state_of : Page → List Step → State
state_of page before = state_with page before (pen_before page before)
