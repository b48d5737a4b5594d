-- Laws of how far shapes reach. Places are in grains divided by the resolution r, as those inside of an area are.
use Rattle.std.specs.Prelude.{◌≡◌, ℕ, ◌*◌, ◌<◌, true, false, ℤ, pos, ◌*ℤ◌, ◌≤ℤ◌, List, ◌∷◌}
use Rattle.plot_page.specs.Segments.{Segment}
use Rattle.plot_page.specs.declared.page.Page.{Page}
use Rattle.plot_page.specs.declared.pens.PenSet.{PenSet}
use Rattle.polygons.specs.declared.lines.Rule.{Rule}
use Rattle.areas.specs.Inside.{is_inside_area}
use Rattle.areas.specs.Laws.{AreRound}
use Rattle.areas.specs.Shapes.{plain}
use Rattle.page_fit.specs.Census.{census_of, is_beside}
use Rattle.page_fit.specs.Extents.{extent_of, reach, seen}
use Rattle.page_fit.specs.Shapes.{diagonal, shapes_census, shapes_extent}

-- strokes that are no edges are measured and counted as if there were no areas
pub record StrokesStayStrokes : Type 0 where
  pub extent : (pens : PenSet) (page : Page) (strokes : List Segment) → shapes_extent pens page (plain strokes) ≡ extent_of pens page strokes
  pub census : (pens : PenSet) (page : Page) (strokes : List Segment) → shapes_census pens page (plain strokes) ≡ census_of pens page strokes

-- a number is not less than the first one, and not greater than the second, which are in grains
abbrev pub IsBetween : ℕ → ℤ → ℤ → ℤ → Type 0
IsBetween r low high v = ((pos r *ℤ low) ≤ℤ v) × (v ≤ℤ (pos r *ℤ high))

-- a place that an area fills in its window is where it is seen by its diagonal, so nothing that is filled lies off the page around
-- the drawing. If the place is on a page, the area is not counted as off that page
pub record FilledPlacesAreSeen : Type 0 where
  pub in_x : (page : Page) (rule : Rule) (r : ℕ) (s : Segment) (more : List Segment) (x y : ℤ) → AreRound (s ∷ more)
      → is_inside_area rule r (s ∷ more) x y ≡ true → IsBetween r s.window.x0 s.window.x1 x
      → IsBetween r (seen page (diagonal s more)).least_x (seen page (diagonal s more)).greatest_x x
  pub in_y : (page : Page) (rule : Rule) (r : ℕ) (s : Segment) (more : List Segment) (x y : ℤ) → AreRound (s ∷ more)
      → is_inside_area rule r (s ∷ more) x y ≡ true → IsBetween r s.window.y0 s.window.y1 y
      → IsBetween r (seen page (diagonal s more)).least_y (seen page (diagonal s more)).greatest_y y
  pub on_page : (page : Page) (rule : Rule) (r : ℕ) (s : Segment) (more : List Segment) (x y : ℤ) → AreRound (s ∷ more)
      → is_inside_area rule r (s ∷ more) x y ≡ true → 0 < r
      → IsBetween r (pos 0) (pos (16 * page.width)) x → IsBetween r (pos 0) (pos (16 * page.height)) y
      → is_beside page (reach (diagonal s more)) ≡ false
