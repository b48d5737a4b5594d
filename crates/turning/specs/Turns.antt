-- A page that is turned counterclockwise with all that is on it. Places are in grains from the lower left corner of the page as it
-- lies; a plotter unit has 16.
use Rattle.std.specs.Prelude.{◌*◌, Bool, not, ◌&&◌, ◌||◌, if◌then◌else◌, List, map, ℤ, pos, ◌-ℤ◌}
use Rattle.std.specs.List.{list_all}
use Rattle.directions.specs.declared.turn.Turn.{Turn}
use Rattle.directions.specs.declared.turn.Turn.TheVariants.{None, Quarter, Half, ThreeQuarters}
use Rattle.exact.specs.declared.spot.Spot.{Spot}
use Rattle.labels.specs.declared.place.Place.{Place}
use Rattle.labels.specs.Labels.{LabelShape, LineShape, place_of}
use Rattle.plot_page.specs.declared.page.Page.{Page}
use Rattle.plot_page.specs.declared.pens.PenSet.{PenSet}
use Rattle.plot_page.specs.declared.window.Window.{Window}
use Rattle.plot_page.specs.Pens.{has_pen}
use Rattle.plot_page.specs.Segments.{Segment, is_far_end}
use Rattle.plot_page.specs.Strokes.{is_on_roll}

abbrev pub spot : ℤ → ℤ → Spot
spot x y = record { x = x; y = y }

-- the page on its side: its height is its width; how far its corner lay left of (0, 0) and below it is still said
abbrev pub page_on_side : Page → Page
page_on_side page = record {
  width = page.height;
  height = page.width;
  left = page.left;
  below = page.below;
  width_in = page.height_in;
  height_in = page.width_in;
  left_in = page.left_in;
  below_in = page.below_in;
}

abbrev pub turned_page : Turn → Page → Page
turned_page Quarter page = page_on_side page
turned_page ThreeQuarters page = page_on_side page
turned_page _ page = page

-- where a place of a sheet lies after the turn; the sheet has this width and height, in the unit of the place
abbrev pub turned_in : Turn → ℤ → ℤ → Spot → Spot
turned_in None width height p = p
turned_in Quarter width height p = spot (height -ℤ p.y) p.x
turned_in Half width height p = spot (width -ℤ p.x) (height -ℤ p.y)
turned_in ThreeQuarters width height p = spot p.y (width -ℤ p.x)

-- where a place of a page lies
abbrev pub turned_place : Turn → Page → Spot → Spot
turned_place turn page p = turned_in turn (pos (16 * page.width)) (pos (16 * page.height)) p

-- the window whose lower left and upper right corners these were before the turn
abbrev pub window_between : Turn → Spot → Spot → Window
window_between None a b = record { x0 = a.x; y0 = a.y; x1 = b.x; y1 = b.y }
window_between Quarter a b = record { x0 = b.x; y0 = a.y; x1 = a.x; y1 = b.y }
window_between Half a b = record { x0 = b.x; y0 = b.y; x1 = a.x; y1 = a.y }
window_between ThreeQuarters a b = record { x0 = a.x; y0 = b.y; x1 = b.x; y1 = a.y }

abbrev pub turned_window : Turn → Page → Window → Window
turned_window turn page w =
    window_between turn (turned_place turn page (spot w.x0 w.y0)) (turned_place turn page (spot w.x1 w.y1))

-- a stroke on the turned page
abbrev pub turned_segment : Turn → Page → Segment → Segment
turned_segment turn page s =
    let first = turned_place turn page (spot s.ax s.ay) in
    let last = turned_place turn page (spot s.bx s.by) in
    record {
      pen = s.pen;
      colour = s.colour;
      width = s.width;
      window = turned_window turn page s.window;
      ax = first.x;
      ay = first.y;
      bx = last.x;
      by = last.y;
    }

-- the same if its pen is selected; else it stays as it is
abbrev pub turned_if_selected : PenSet → Turn → Page → Segment → Segment
turned_if_selected pens turn page s = if has_pen pens s.pen then turned_segment turn page s else s

-- all strokes of the selected pens, turned
abbrev pub turned_strokes : PenSet → Turn → Page → List Segment → List Segment
turned_strokes pens turn page strokes = map (turned_if_selected pens turn page) strokes

-- after the turn the corners of a window lie on the longest page
abbrev pub is_corner_at : Spot → Bool
is_corner_at p = is_on_roll p.x && is_on_roll p.y

abbrev pub has_corners : Turn → Page → Window → Bool
has_corners turn page w =
    is_corner_at (turned_place turn page (spot w.x0 w.y0)) && is_corner_at (turned_place turn page (spot w.x1 w.y1))

-- and the ends of a stroke are places
abbrev pub is_end_at : Spot → Bool
is_end_at p = is_far_end p.x p.y

abbrev pub has_ends : Turn → Page → Segment → Bool
has_ends turn page s =
    is_end_at (turned_place turn page (spot s.ax s.ay)) && is_end_at (turned_place turn page (spot s.bx s.by))

-- a stroke can be turned: it is a stroke after the turn
abbrev pub is_turnable : Turn → Page → Segment → Bool
is_turnable turn page s = has_corners turn page s.window && has_ends turn page s

-- all strokes of the selected pens can be
abbrev pub are_turnable : PenSet → Turn → Page → List Segment → Bool
are_turnable pens turn page strokes = list_all (λ s. not (has_pen pens s.pen) || is_turnable turn page s) strokes

-- a place of a letter after the turn, cut to where strokes may end
abbrev pub turned_letter : Turn → Page → Place → Place
turned_letter turn page p = place_of (turned_place turn page (spot p.x p.y))

abbrev pub turned_line : Turn → Page → LineShape → LineShape
turned_line turn page l = record l {
  start = turned_letter turn page l.start;
  end = turned_letter turn page l.end;
  top = turned_letter turn page l.top;
}

abbrev pub turned_label : Turn → Page → LabelShape → LabelShape
turned_label turn page l = record l { lines = map (turned_line turn page) l.lines }

-- labels on the turned page
abbrev pub turned_labels : Turn → Page → List LabelShape → List LabelShape
turned_labels turn page labels = map (turned_label turn page) labels
