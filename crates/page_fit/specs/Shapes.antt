-- How far shapes reach, and which lie off the page. A stroke does as before. An area does as a stroke from corner to corner of the
-- box of its edges: what is inside of the area is in this box, but need not fill it, as a slanted stroke does not fill its own.
use Rattle.std.specs.Prelude.{◌+◌, ◌&&◌, ◌||◌, Bool, true, List, [], ◌∷◌, Option, count_by, flat_map, fold, length, not, if◌then◌else◌}
use Rattle.std.specs.Int.{int_max, int_min}
use Rattle.std.specs.List.{list_all}
use Rattle.areas.specs.Shapes.{Shape, ShapeList, shapes}
use Rattle.plot_page.specs.Segments.{Segment}
use Rattle.plot_page.specs.Pens.{has_pen}
use Rattle.plot_page.specs.declared.page.Page.{Page}
use Rattle.plot_page.specs.declared.pens.PenSet.{PenSet}
use Rattle.page_fit.specs.Census.{is_beside, lies_on}
use Rattle.page_fit.specs.Extents.{extent_of, holds_page, reach}
use Rattle.page_fit.specs.declared.census.Census.{Census}
use Rattle.page_fit.specs.declared.extent.Extent.{Extent}

-- a stroke from corner to corner of the box of two strokes, drawn as the first one
abbrev pub across : Segment → Segment → Segment
across s t = record s {
  ax = int_min (int_min s.ax s.bx) (int_min t.ax t.bx);
  ay = int_min (int_min s.ay s.by) (int_min t.ay t.by);
  bx = int_max (int_max s.ax s.bx) (int_max t.ax t.bx);
  by = int_max (int_max s.ay s.by) (int_max t.ay t.by);
}

-- the same of a stroke and more, all drawn as the first one, as the edges of an area are. It is the first one if there are no more
abbrev pub diagonal : Segment → List Segment → Segment
diagonal s more = fold across s more

-- the diagonals of shapes, each by its strokes; a shape without strokes has none
abbrev pub diagonal_of : List Segment → List Segment
diagonal_of [] = []
diagonal_of (s ∷ more) = diagonal s more ∷ []

abbrev pub diagonals : List Shape → List Segment
diagonals shapes = flat_map (λ shape. diagonal_of shape.strokes) shapes

-- how far the shapes of the selected pens are seen; None if nothing is. An area may be seen less far
abbrev pub shapes_extent : PenSet → Page → ShapeList → Option Extent
shapes_extent pens page list = extent_of pens page (diagonals (shapes list.strokes list.areas))

-- an end of a stroke is off the page, and no window cuts it
abbrev pub is_cut : Page → Segment → Bool
is_cut page s = not (lies_on page s) && holds_page page s.window

-- with the strokes of a shape, if their pen is selected: all are off the page if their diagonal is, and else none is
abbrev pub counted_all : PenSet → Page → Census → List Segment → Census
counted_all pens page census [] = census
counted_all pens page census (s ∷ more) =
    let n = length (s ∷ more) in
    let cut = count_by (is_cut page) (s ∷ more) in
    if not (has_pen pens s.pen) then census else
    if is_beside page (reach (diagonal s more)) then record { strokes = census.strokes + n; off_page = census.off_page + n; cut = census.cut } else
    record { strokes = census.strokes + n; off_page = census.off_page; cut = census.cut + cut }

-- how many strokes and edges the selected pens draw, how many of these lie off the page with all of their shape, and how many
-- others, which no window cuts, have an end off it
abbrev pub shapes_census : PenSet → Page → ShapeList → Census
shapes_census pens page list =
    fold (λ census shape. counted_all pens page census shape.strokes) (record { strokes = 0; off_page = 0; cut = 0 })
    (shapes list.strokes list.areas)

-- the strokes of a shape are of no selected pen, or their diagonal is off the page
abbrev pub lies_off : PenSet → Page → List Segment → Bool
lies_off pens page [] = true
lies_off pens page (s ∷ more) = not (has_pen pens s.pen) || is_beside page (reach (diagonal s more))

-- all that the selected pens draw is off the page, or they draw nothing
abbrev pub is_off_page : PenSet → Page → ShapeList → Bool
is_off_page pens page list = list_all (λ shape. lies_off pens page shape.strokes) (shapes list.strokes list.areas)
