-- How many strokes are drawn, how many of them lie off the page, and how many reach over its edge.
use Rattle.std.specs.Prelude.{◌+◌, ◌*◌, ◌||◌, ◌&&◌, ℕ, ℤ, pos, int_lt, Bool, List, not, fold, if◌then◌else◌}
use Rattle.plot_page.specs.Segments.{Segment}
use Rattle.plot_page.specs.Pens.{has_pen}
use Rattle.plot_page.specs.declared.page.Page.{Page}
use Rattle.plot_page.specs.declared.pens.PenSet.{PenSet}
use Rattle.page_fit.specs.Extents.{holds_page, reach}
use Rattle.page_fit.specs.declared.extent.Extent.{Extent}
use Rattle.page_fit.specs.declared.census.Census.{Census}

-- no place of an extent lies on the page, which has 16 grains a plotter unit
abbrev pub is_beside : Page → Extent → Bool
is_beside page e =
    int_lt e.greatest_x (pos 0) || int_lt (pos (16 * page.width)) e.least_x
    || (int_lt e.greatest_y (pos 0) || int_lt (pos (16 * page.height)) e.least_y)

-- a place lies within a side of the page
abbrev pub is_within : ℕ → ℤ → Bool
is_within side place = not (int_lt place (pos 0)) && not (int_lt (pos (16 * side)) place)

-- a place lies on the page
abbrev pub is_on : Page → ℤ → ℤ → Bool
is_on page x y = is_within page.width x && is_within page.height y

-- both ends of a stroke do
abbrev pub lies_on : Page → Segment → Bool
lies_on page s = is_on page s.ax s.ay && is_on page s.bx s.by

-- with a stroke, if its pen is selected
abbrev pub counted : PenSet → Page → Census → Segment → Census
counted pens page census s =
    if not (has_pen pens s.pen) then census else
    if is_beside page (reach s) then record { strokes = census.strokes + 1; off_page = census.off_page + 1; cut = census.cut } else
    if lies_on page s || not (holds_page page s.window) then record { strokes = census.strokes + 1; off_page = census.off_page; cut = census.cut } else
    record { strokes = census.strokes + 1; off_page = census.off_page; cut = census.cut + 1 }

-- how many strokes the selected pens draw, how many of these lie off the page with all of their width, whatever window hides
-- them, and how many others, which no window cuts, have an end off it
abbrev pub census_of : PenSet → Page → List Segment → Census
census_of pens page strokes = fold (counted pens page) (record { strokes = 0; off_page = 0; cut = 0 }) strokes
