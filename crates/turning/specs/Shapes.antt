-- What a page with areas shows after a turn. Places are in grains divided by the resolution r.
use Rattle.std.specs.Prelude.{◌≡◌, ℕ, zero, suc, ◌≤◌, ◌<◌, Bool, ◌&&◌, ◌||◌, List, length, Option, Some, None}
use Rattle.std.specs.List.{All}
use Rattle.areas.specs.Insides.{is_inside_shape}
use Rattle.areas.specs.Laws.{AreRound}
use Rattle.areas.specs.Shapes.{edges_of}
use Rattle.areas.specs.declared.area.Area.{Area}
use Rattle.directions.specs.declared.turn.Turn.{Turn}
use Rattle.plot_page.specs.declared.colour.Colour.{Colour}
use Rattle.plot_page.specs.declared.dots.Dots.{Dots}
use Rattle.plot_page.specs.declared.page.Page.{Page}
use Rattle.plot_page.specs.declared.pens.PenSet.{PenSet}
use Rattle.plot_page.specs.Pens.{has_pen}
use Rattle.plot_page.specs.Segments.{Segment}
use Rattle.stroke_raster.specs.Covers.{covers, covers_place, in_window}
use Rattle.stroke_raster.specs.ShownShapes.{area_at, last_at, shown_at, shows_at, stroke_at}
use Rattle.stroke_raster.specs.declared.vector.Vector.{Vector}
use Rattle.turning.specs.Pictures.{HasWholePixels, turned_column, turned_point, turned_row}
use Rattle.turning.specs.Turns.{turned_page, turned_strokes}

-- a place shows a position of a list of strokes with areas, unless it shows a later one: the stroke covers it, or it is inside of
-- the area whose last edge this is
abbrev pub shows_place : PenSet → List Segment → List Area → ℕ → Vector → ℕ → Bool
shows_place pens strokes areas r p position =
    let s = stroke_at strokes position in
    has_pen pens s.pen
    && (covers_place s r p || (in_window s.window r p && is_inside_shape (area_at strokes areas position) r p.x p.y))

-- the pen and the colour at a position, which counts from 1; none for 0
abbrev pub ink_at : List Segment → ℕ → Option (ℕ × Colour)
ink_at strokes zero = None
ink_at strokes (suc k) = Some ((stroke_at strokes (suc k)).pen, (stroke_at strokes (suc k)).colour)

-- what a place shows
abbrev pub ink_shown : PenSet → List Segment → List Area → ℕ → Vector → Option (ℕ × Colour)
ink_shown pens strokes areas r p = ink_at strokes (last_at (shows_place pens strokes areas r p) (length strokes))

-- and a pixel
abbrev pub ink_of_pixel : PenSet → List Segment → List Area → Page → Dots → ℕ → ℕ → Option (ℕ × Colour)
ink_of_pixel pens strokes areas page dots row column =
    ink_at strokes (shown_at (shows_at covers pens strokes areas page dots) (length strokes) row column)

-- two strokes have the same pen, colour and window
pub record IsAlike (s t : Segment) : Type 0 where
  pub pen_is : t.pen ≡ s.pen
  pub colour_is : t.colour ≡ s.colour
  pub window_is : t.window ≡ s.window

-- the edges of an area lead round closed polygons, and look alike
pub record IsSolid (strokes : List Segment) (a : Area) : Type 0 where
  pub round : AreRound (edges_of strokes a)
  pub alike : (k : ℕ) → a.first < k → k ≤ a.end → IsAlike (stroke_at strokes a.end) (stroke_at strokes k)

-- each place shows after the turn the pen and the colour that it showed before, and so does each pixel if the sides of the page are
-- whole numbers of pixels. The position may be that of another edge of the same area
pub record TurnedShapesShow : Type 0 where
  pub places : (turn : Turn) (page : Page) (r : ℕ) (pens : PenSet) (strokes : List Segment) (areas : List Area) (p : Vector) →
      1 ≤ r → All (IsSolid strokes) areas →
      ink_shown pens (turned_strokes pens turn page strokes) areas r (turned_point turn page r p) ≡ ink_shown pens strokes areas r p
  pub pixels : (turn : Turn) (page : Page) (dots : Dots) (rows columns row column : ℕ) (pens : PenSet) (strokes : List Segment)
      (areas : List Area) →
      All (IsSolid strokes) areas → HasWholePixels page dots.resolution rows columns → row < rows → column < columns →
      ink_of_pixel pens (turned_strokes pens turn page strokes) areas (turned_page turn page) dots
      (turned_row turn rows columns row column) (turned_column turn rows columns row column)
      ≡ ink_of_pixel pens strokes areas page dots row column
