-- Which position of a list of strokes each pixel shows, if some of the strokes are the edges of areas. A pixel shows the last
-- position that reaches it: its stroke does, or it is the last edge of an area which has the pixel inside.
use Rattle.std.specs.Prelude.{ℕ, zero, suc, ◌-◌, Bool, ◌&&◌, ◌||◌, if◌then◌else◌, List, [], map, length, get_or, pos, Option, Some, None}
use Rattle.std.specs.List.{range_with_len}
use Rattle.plot_page.specs.Pens.{has_pen}
use Rattle.plot_page.specs.Resolutions.{columns_of}
use Rattle.plot_page.specs.Segments.{Segment}
use Rattle.plot_page.specs.declared.dots.Dots.{Dots}
use Rattle.plot_page.specs.declared.page.Page.{Page}
use Rattle.plot_page.specs.declared.pens.PenSet.{PenSet}
use Rattle.plot_page.specs.declared.window.Window.{Window}
use Rattle.areas.specs.Insides.{is_inside_shape}
use Rattle.areas.specs.Shapes.{Shape, area_shape, ending_at}
use Rattle.areas.specs.declared.area.Area.{Area}
use Rattle.stroke_raster.specs.Covers.{centre, in_window}

-- the last of the positions 1 to n for which the test holds, or 0 if it holds for none
abbrev pub last_at : (ℕ → Bool) → ℕ → ℕ
last_at test zero = 0
last_at test (suc n) = if test (suc n) then suc n else last_at test n

abbrev pub nobody : Segment
nobody =
    record {
      pen = 0;
      colour = record { red = 0; green = 0; blue = 0 };
      width = 0;
      window = record { x0 = pos 0; y0 = pos 0; x1 = pos 0; y1 = pos 0 };
      ax = pos 0;
      ay = pos 0;
      bx = pos 0;
      by = pos 0;
    }

-- the stroke at a position, which counts from 1
abbrev pub stroke_at : List Segment → ℕ → Segment
stroke_at strokes position = get_or strokes (position - 1) nobody

abbrev pub no_shape : Shape
no_shape = record { strokes = []; rule = None }

abbrev pub shape_of : List Segment → Option Area → Shape
shape_of strokes None = no_shape
shape_of strokes (Some a) = area_shape strokes a

-- the area whose last edge is the stroke at a position
abbrev pub area_at : List Segment → List Area → ℕ → Shape
area_at strokes areas position = shape_of strokes (ending_at position areas)

-- the centre of a pixel is in a window, and inside of a shape
abbrev pub is_filled : Window → Shape → Page → Dots → ℕ → ℕ → Bool
is_filled window shape page dots row column =
    let c = centre page.height dots.resolution row column in
    in_window window dots.resolution c && is_inside_shape shape dots.resolution c.x c.y

-- which pixels of a page a stroke reaches, by row and column
abbrev pub Reaches : Type 0
Reaches = Segment → Page → Dots → ℕ → ℕ → Bool

-- a pixel is reached by a stroke, or is inside of an area that it ends
abbrev pub reaches_with : Reaches → Segment → Shape → Page → Dots → ℕ → ℕ → Bool
reaches_with reaches s shape page dots row column = reaches s page dots row column || is_filled s.window shape page dots row column

-- a pixel shows a position, unless it shows a later one
abbrev pub shows_at : Reaches → PenSet → List Segment → List Area → Page → Dots → ℕ → ℕ → ℕ → Bool
shows_at reaches pens strokes areas page dots position row column =
    has_pen pens (stroke_at strokes position).pen
    && reaches_with reaches (stroke_at strokes position) (area_at strokes areas position) page dots row column

-- the last of n positions for which a test of a pixel holds, for the pixels of a row from column 0 on, and for those of a number of rows
abbrev pub shown_at : (ℕ → ℕ → ℕ → Bool) → ℕ → ℕ → ℕ → ℕ
shown_at test n row column = last_at (λ position. test position row column) n

abbrev pub row_at : (ℕ → ℕ → ℕ → Bool) → ℕ → ℕ → ℕ → List ℕ
row_at test n columns row = map (λ column. shown_at test n row column) (range_with_len 0 columns)

abbrev pub rows_at : (ℕ → ℕ → ℕ → Bool) → ℕ → ℕ → ℕ → ℕ → List (List ℕ)
rows_at test n columns first count = map (λ row. row_at test n columns row) (range_with_len first count)

-- what the pixels of a row show, from column 0 on
abbrev pub row_of_shapes : Reaches → PenSet → List Segment → List Area → Page → Dots → ℕ → List ℕ
row_of_shapes reaches pens strokes areas page dots row =
    row_at (shows_at reaches pens strokes areas page dots) (length strokes) (columns_of page dots) row
