-- The positions of a list of strokes, called slots, and the bands in which they begin and go on: those of the box of a stroke, and of the
-- area that ends with it.
use Rattle.std.specs.Prelude.{ℕ, ◌+◌, ◌-◌, ◌*◌, ◌/◌, Bool, nat_lt, ◌&&◌, if◌then◌else◌, max, List, [], ◌∷◌, ℤ}
use Rattle.std.specs.Int.{int_max, int_min}
use Rattle.plot_page.specs.declared.page.Page.{Page}
use Rattle.plot_page.specs.Segments.{Segment}
use Rattle.plot_page.specs.declared.dots.Dots.{Dots}
use Rattle.plot_page.specs.declared.pens.PenSet.{PenSet}
use Rattle.plot_page.specs.Pens.{has_pen}
use Rattle.areas.specs.declared.area.Area.{Area}
use Rattle.stroke_raster.specs.Extents.{first_row_of, end_row_of}
use Rattle.stroke_raster.specs.ShownShapes.{area_at, stroke_at}

-- the lowest and the highest end of edges, or a height that is lower or higher
abbrev pub lowest : ℤ → List Segment → ℤ
lowest y [] = y
lowest y (e ∷ es) = int_min (int_min e.ay e.by) (lowest y es)

abbrev pub highest : ℤ → List Segment → ℤ
highest y [] = y
highest y (e ∷ es) = int_max (int_max e.ay e.by) (highest y es)

-- a stroke, as tall as it and edges are together
abbrev pub tall : Segment → List Segment → Segment
tall s [] = s
tall s (e ∷ es) = record s { ay = lowest (int_min s.ay s.by) (e ∷ es); by = highest (int_max s.ay s.by) (e ∷ es) }

-- the first row of their box in the stroke's window, and the row after its last
abbrev pub least_row : Segment → List Segment → Page → Dots → ℕ
least_row s es page dots = first_row_of (tall s es) page dots

abbrev pub greatest_row : Segment → List Segment → Page → Dots → ℕ
greatest_row s es page dots = end_row_of (tall s es) page dots

abbrev pub first_row_at : List Segment → List Area → Page → Dots → ℕ → ℕ
first_row_at strokes areas page dots slot = least_row (stroke_at strokes slot) (area_at strokes areas slot).strokes page dots

abbrev pub end_row_at : List Segment → List Area → Page → Dots → ℕ → ℕ
end_row_at strokes areas page dots slot = greatest_row (stroke_at strokes slot) (area_at strokes areas slot).strokes page dots

-- the band in which rows begin, in bands of h rows from row r0 on; the number of bands if they begin in none
abbrev pub band_from : Bool → ℕ → ℕ → ℕ → ℕ → ℕ → ℕ
band_from is_selected low end r0 h bands =
    if is_selected && nat_lt (max low r0) end then (max low r0 - r0) / h else bands

abbrev pub band_of : PenSet → List Segment → List Area → Page → Dots → ℕ → ℕ → ℕ → ℕ → ℕ
band_of pens strokes areas page dots r0 h bands slot =
    band_from (has_pen pens (stroke_at strokes slot).pen) (first_row_at strokes areas page dots slot)
    (end_row_at strokes areas page dots slot) r0 h bands

-- the rows of a slot reach the first row of band k, or a later one
abbrev pub goes_on : List Segment → List Area → Page → Dots → ℕ → ℕ → ℕ → ℕ → Bool
goes_on strokes areas page dots r0 h k slot = nat_lt (r0 + k * h) (end_row_at strokes areas page dots slot)
