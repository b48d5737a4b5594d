-- What a page shows after a turn. Places are in grains divided by the resolution r, so that each is whole.
use Rattle.std.specs.Prelude.{◌≡◌, ℕ, ◌-◌, ◌*◌, ◌<◌, ◌&&◌, List, pos}
use Rattle.directions.specs.declared.turn.Turn.{Turn}
use Rattle.directions.specs.declared.turn.Turn.TheVariants.{None, Quarter, Half, ThreeQuarters}
use Rattle.plot_page.specs.declared.dots.Dots.{Dots}
use Rattle.plot_page.specs.declared.page.Page.{Page}
use Rattle.plot_page.specs.declared.pens.PenSet.{PenSet}
use Rattle.plot_page.specs.declared.window.Window.{Window}
use Rattle.plot_page.specs.Pens.{has_pen}
use Rattle.plot_page.specs.Resolutions.{columns_of, rows_of}
use Rattle.plot_page.specs.Segments.{Segment}
use Rattle.stroke_raster.specs.Covers.{centre, covers, covers_place, in_window, is_gap_met}
use Rattle.stroke_raster.specs.Shown.{last_position, shown}
use Rattle.stroke_raster.specs.declared.vector.Vector.{Vector}
use Rattle.turning.specs.Turns.{spot, turned_in, turned_page, turned_segment, turned_strokes, turned_window}

-- where a place of a page lies after the turn
abbrev pub turned_point : Turn → Page → ℕ → Vector → Vector
turned_point turn page r p =
    let q = turned_in turn (pos (16 * page.width * r)) (pos (16 * page.height * r)) (spot p.x p.y) in
    record { x = q.x; y = q.y }

-- a place is in a turned window, within half the drawn width of a turned stroke, or covered by it, if and only if it was so before
-- the turn
pub record TurnedStrokesCover : Type 0 where
  pub windows : (turn : Turn) (page : Page) (r : ℕ) (w : Window) (p : Vector) →
      in_window (turned_window turn page w) r (turned_point turn page r p) ≡ in_window w r p
  pub gaps : (turn : Turn) (page : Page) (r : ℕ) (s : Segment) (p : Vector) →
      is_gap_met (turned_segment turn page s) r (turned_point turn page r p) ≡ is_gap_met s r p
  pub covered : (turn : Turn) (page : Page) (r : ℕ) (s : Segment) (p : Vector) →
      covers_place (turned_segment turn page s) r (turned_point turn page r p) ≡ covers_place s r p

-- the position of the last of these strokes, of a selected pen, that covers a place, or 0
abbrev pub shown_place : PenSet → ℕ → List Segment → Vector → ℕ
shown_place pens r strokes p = last_position (λ s. has_pen pens s.pen && covers_place s r p) strokes

-- the sides of a page are whole numbers of pixels, of which a plotter unit has r / 1016
pub record HasWholePixels (page : Page) (r rows columns : ℕ) : Type 0 where
  pub width : page.width * r ≡ 1016 * columns
  pub height : page.height * r ≡ 1016 * rows

-- where a pixel of so many rows and columns comes to
abbrev pub turned_row : Turn → ℕ → ℕ → ℕ → ℕ → ℕ
turned_row None rows columns row column = row
turned_row Quarter rows columns row column = columns - 1 - column
turned_row Half rows columns row column = rows - 1 - row
turned_row ThreeQuarters rows columns row column = column

abbrev pub turned_column : Turn → ℕ → ℕ → ℕ → ℕ → ℕ
turned_column None rows columns row column = column
turned_column Quarter rows columns row column = row
turned_column Half rows columns row column = columns - 1 - column
turned_column ThreeQuarters rows columns row column = rows - 1 - row

-- each place shows after the turn the stroke that it showed before; and so does each pixel, if the sides of the page are whole
-- numbers of pixels, which are those of its picture. If they are not, the centre of a pixel need not be one after the turn, since
-- pixels are counted from the upper left corner of each page
pub record TurnedPagesShow : Type 0 where
  pub places : (turn : Turn) (page : Page) (r : ℕ) (pens : PenSet) (strokes : List Segment) (p : Vector) →
      shown_place pens r (turned_strokes pens turn page strokes) (turned_point turn page r p) ≡ shown_place pens r strokes p
  pub grids : (page : Page) (dots : Dots) (rows columns : ℕ) → HasWholePixels page dots.resolution rows columns →
      (rows_of page dots ≡ rows) × (columns_of page dots ≡ columns)
  pub centres : (turn : Turn) (page : Page) (r rows columns row column : ℕ) →
      HasWholePixels page r rows columns → row < rows → column < columns →
      turned_point turn page r (centre page.height r row column)
      ≡ centre (turned_page turn page).height r (turned_row turn rows columns row column) (turned_column turn rows columns row column)
  pub pixels : (turn : Turn) (page : Page) (dots : Dots) (rows columns row column : ℕ) (pens : PenSet) (strokes : List Segment) →
      HasWholePixels page dots.resolution rows columns → row < rows → column < columns →
      shown (λ s. covers s (turned_page turn page) dots) pens (turned_strokes pens turn page strokes)
      (turned_row turn rows columns row column) (turned_column turn rows columns row column)
      ≡ shown (λ s. covers s page dots) pens strokes row column
