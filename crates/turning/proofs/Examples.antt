-- Worked examples: a page of 64 by 128 plotter units, 1024 by 2048 grains, that is turned; also what it shows.
use Rattle.std.proofs.Common.{◌≡◌, ℕ, Bool, List, [], ◌∷◌, map, refl, ℤ, pos, negsuc, true, false, lit≤}
use Rattle.directions.specs.declared.turn.Turn.{Turn}
use Rattle.directions.specs.declared.turn.Turn.TheVariants.{None, Quarter, Half, ThreeQuarters}
use Rattle.exact.proofs.Tables.{Agree}
use Rattle.labels.specs.Labels.{LabelShape}
use Rattle.labels.specs.declared.place.Place.{Place}
use Rattle.plot_page.specs.declared.page.Page.{Page}
use Rattle.plot_page.specs.declared.window.Window.{Window}
use Rattle.plot_page.specs.Segments.{Segment}
use Rattle.areas.specs.Inside.{is_inside_area}
use Rattle.areas.specs.Laws.{rectangle}
use Rattle.polygons.specs.declared.lines.Rule.TheVariants.{OddCounts}
use Rattle.stroke_raster.specs.Covers.{centre}
use Rattle.turning.specs.Filled.{area_covers}
use Rattle.turning.specs.Laws.{holds_nothing}
use Rattle.turning.specs.Pictures.{turned_column, turned_point, turned_row}
use Rattle.stroke_raster.specs.declared.vector.Vector.{Vector}
use Rattle.turning.specs.Turns.{is_turnable, spot, turned_labels, turned_page, turned_place, turned_segment, turned_window}

-- 64 by 128 units; its corner lies 10 units left of (0, 0) and 20 below it
abbrev tall : Page
tall = record {
  width = 64;
  height = 128;
  left = 10;
  below = 20;
  width_in = (lit≤ tt, lit≤ tt);
  height_in = (lit≤ tt, lit≤ tt);
  left_in = lit≤ tt;
  below_in = lit≤ tt;
}

abbrev sides : Page → (ℕ × ℕ)
sides page = (page.width, page.height)

-- width and height after a turn
pages : Agree (
    (sides (turned_page None tall), (64, 128))
    ∷ (sides (turned_page Quarter tall), (128, 64))
    ∷ (sides (turned_page Half tall), (64, 128))
    ∷ (sides (turned_page ThreeQuarters tall), (128, 64))
    ∷ [])
pages = refl

-- where its corner was is still said
corners : Agree (((turned_page Quarter tall).left, 10) ∷ ((turned_page Quarter tall).below, 20) ∷ [])
corners = refl

-- places after a turn
places : Agree (
    (turned_place None tall (spot (pos 100) (pos 300)), spot (pos 100) (pos 300))
    ∷ (turned_place Quarter tall (spot (pos 100) (pos 300)), spot (pos 1748) (pos 100))
    ∷ (turned_place Half tall (spot (pos 100) (pos 300)), spot (pos 924) (pos 1748))
    ∷ (turned_place ThreeQuarters tall (spot (pos 100) (pos 300)), spot (pos 300) (pos 924))
    -- the lower left corner comes to the lower right, the upper right and the upper left
    ∷ (turned_place Quarter tall (spot (pos 0) (pos 0)), spot (pos 2048) (pos 0))
    ∷ (turned_place Half tall (spot (pos 0) (pos 0)), spot (pos 1024) (pos 2048))
    ∷ (turned_place ThreeQuarters tall (spot (pos 0) (pos 0)), spot (pos 0) (pos 1024))
    -- the lower right corner to the upper right
    ∷ (turned_place Quarter tall (spot (pos 1024) (pos 0)), spot (pos 2048) (pos 1024))
    -- what lies below the page to its right
    ∷ (turned_place Quarter tall (spot (pos 0) (negsuc 15)), spot (pos 2064) (pos 0))
    ∷ [])
places = refl

abbrev window : ℤ → ℤ → ℤ → ℤ → Window
window x0 y0 x1 y1 = record { x0 = x0; y0 = y0; x1 = x1; y1 = y1 }

-- windows after a turn
windows : Agree (
    -- the whole page is the whole page
    (turned_window Quarter tall (window (pos 0) (pos 0) (pos 1024) (pos 2048)), window (pos 0) (pos 0) (pos 2048) (pos 1024))
    ∷ (turned_window Half tall (window (pos 0) (pos 0) (pos 1024) (pos 2048)), window (pos 0) (pos 0) (pos 1024) (pos 2048))
    -- a window in its lower left corner
    ∷ (turned_window Quarter tall (window (pos 0) (pos 0) (pos 100) (pos 300)), window (pos 1748) (pos 0) (pos 2048) (pos 100))
    ∷ (turned_window Half tall (window (pos 0) (pos 0) (pos 100) (pos 300)), window (pos 924) (pos 1748) (pos 1024) (pos 2048))
    ∷ (turned_window ThreeQuarters tall (window (pos 0) (pos 0) (pos 100) (pos 300)), window (pos 0) (pos 924) (pos 300) (pos 1024))
    -- one that holds no place
    ∷ (turned_window Quarter tall (window (pos 1) (pos 1) (pos 0) (pos 0)), window (pos 2048) (pos 1) (pos 2047) (pos 0))
    ∷ [])
windows = refl

empty : Agree (
    (holds_nothing (turned_window Quarter tall (window (pos 1) (pos 1) (pos 0) (pos 0))), true)
    ∷ (holds_nothing (turned_window Half tall (window (pos 0) (pos 5) (pos 9) (pos 4))), true)
    ∷ (holds_nothing (turned_window ThreeQuarters tall (window (pos 0) (pos 5) (pos 9) (pos 5))), false)  -- one without height holds some
    ∷ [])
empty = refl

-- a stroke of pen 2, of a width, in the whole of the page
abbrev stroke : Window → ℤ → ℤ → ℤ → ℤ → Segment
stroke w ax ay bx by = record {
  pen = 2;
  colour = record { red = 9; green = 8; blue = 7 };
  width = 40;
  window = w;
  ax = ax;
  ay = ay;
  bx = bx;
  by = by;
}

abbrev whole : Window
whole = window (pos 0) (pos 0) (pos 1024) (pos 2048)

abbrev on_side : Window
on_side = window (pos 0) (pos 0) (pos 2048) (pos 1024)

-- one that leads upwards
abbrev upright : Segment
upright = stroke whole (pos 100) (pos 300) (pos 100) (pos 2000)

-- strokes after a turn
strokes : Agree (
    (turned_segment Quarter tall upright, stroke on_side (pos 1748) (pos 100) (pos 48) (pos 100))
    ∷ (turned_segment Half tall upright, stroke whole (pos 924) (pos 1748) (pos 924) (pos 48))
    ∷ (turned_segment ThreeQuarters tall upright, stroke on_side (pos 300) (pos 924) (pos 2000) (pos 924))
    ∷ [])
strokes = refl

-- what can be turned
turnable : Agree (
    -- what lies 134,215,664 below the page comes to 134,217,712
    (is_turnable Quarter tall (stroke whole (pos 134217712) (pos 134217712) (negsuc 134217711) (negsuc 134215663)), true)
    ∷ (is_turnable Quarter tall (stroke whole (pos 0) (pos 0) (pos 0) (negsuc 134215664)), false)  -- and one more is too many
    ∷ (is_turnable ThreeQuarters tall (stroke whole (pos 0) (pos 0) (pos 0) (negsuc 134215664)), true)
    ∷ (is_turnable ThreeQuarters tall (stroke whole (negsuc 134216688) (pos 0) (pos 0) (pos 0)), false)
    -- a window over the edge of the page
    ∷ (is_turnable Half tall (stroke (window (pos 0) (pos 0) (pos 1025) (pos 2048)) (pos 0) (pos 0) (pos 0) (pos 0)), false)
    ∷ (is_turnable None tall (stroke (window (pos 0) (pos 0) (pos 1025) (pos 2048)) (pos 0) (pos 0) (pos 0) (pos 0)), true)
    ∷ [])
turnable = refl

abbrev at : ℤ → ℤ → Place
at x y = record { x = x; y = y }

-- a label of one letter
abbrev written : Place → Place → Place → LabelShape
written start end top =
    record { first = 0; after = 3; lines = record { text = 65 ∷ []; start = start; end = end; top = top } ∷ [] }

-- a label along a line to the right runs upwards after a quarter turn
labels_upwards : turned_labels Quarter tall (written (at (pos 0) (pos 0)) (at (pos 32) (pos 0)) (at (pos 0) (pos 48)) ∷ [])
    ≡ written (at (pos 2048) (pos 0)) (at (pos 2048) (pos 32)) (at (pos 2000) (pos 0)) ∷ []
labels_upwards = refl

-- a place that would lie too far away is cut to the farthest one
labels_cut : turned_labels Half tall (written (at (pos 0) (pos 0)) (at (negsuc 134217000) (pos 0)) (at (pos 0) (pos 48)) ∷ [])
    ≡ written (at (pos 1024) (pos 2048)) (at (pos 134217712) (pos 2048)) (at (pos 1024) (pos 2000)) ∷ []
labels_cut = refl

-- pixels of the page at 127 dots per inch, where it has 16 rows and 8 columns
abbrev pixel : Turn → ℕ → ℕ → (ℕ × ℕ)
pixel turn row column = (turned_row turn 16 8 row column, turned_column turn 16 8 row column)

pixels : Agree (
    (pixel None 2 3, (2, 3))
    ∷ (pixel Quarter 2 3, (4, 2))
    ∷ (pixel Half 2 3, (13, 4))
    ∷ (pixel ThreeQuarters 2 3, (3, 13))
    -- the upper left one
    ∷ (pixel Quarter 0 0, (7, 0))
    ∷ (pixel Half 0 0, (15, 7))
    ∷ (pixel ThreeQuarters 0 0, (0, 15))
    ∷ [])
pixels = refl

abbrev point : ℤ → ℤ → Vector
point x y = record { x = x; y = y }

-- centres of pixels
centres : Agree (
    (turned_point Quarter tall 127 (centre 128 127 0 0), point (pos 8128) (pos 8128))
    ∷ (centre 64 127 7 0, point (pos 8128) (pos 8128))
    -- at 300 dots per inch the page is 18.9 pixels wide, and no pixel of the turned page has this centre: the nearest one lies
    -- 1,664 steps lower
    ∷ (turned_point Quarter tall 300 (centre 128 300 0 0), point (pos 8128) (pos 8128))
    ∷ (centre 64 300 18 0, point (pos 8128) (pos 6464))
    ∷ [])
centres = refl

-- a square of 16 grains in the lower left corner
abbrev square : List Segment
square = rectangle (stroke whole (pos 0) (pos 0) (pos 0) (pos 0)) (pos 0) (pos 0) (pos 16) (pos 16)

-- it is inside at a place, after a turn
abbrev inside : Turn → ℤ → ℤ → Bool
inside turn x y =
    let q = turned_point turn tall 1 (point x y) in
    is_inside_area OddCounts 1 (map (turned_segment turn tall) square) q.x q.y

abbrev covered : Turn → ℤ → ℤ → Bool
covered turn x y =
    area_covers OddCounts (turned_window turn tall whole) (map (turned_segment turn tall) square) 1 (turned_point turn tall 1 (point x y))

areas : Agree (
    (inside None (pos 8) (pos 8), true)
    ∷ (inside Quarter (pos 8) (pos 8), true)
    ∷ (inside Half (pos 8) (pos 8), true)
    ∷ (inside Half (pos 8) (pos 20), false)
    -- the left side is inside, but after a half turn it is the right side, which is not; it is covered as an edge
    ∷ (inside None (pos 0) (pos 8), true)
    ∷ (inside Half (pos 0) (pos 8), false)
    ∷ (covered None (pos 0) (pos 8), true)
    ∷ (covered Half (pos 0) (pos 8), true)
    ∷ [])
areas = refl
