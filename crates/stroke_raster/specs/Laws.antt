-- What holds of the bands that a painter lends, one call of `next_band` after another, and of pixels.
use Rattle.std.specs.Prelude.{◌≡◌, ℕ, ◌+◌, ◌-◌, ◌*◌, ◌<◌, ◌≤◌, pos, ◌*ℤ◌, int_le, Bool, true, false, ◌&&◌, List, []}
use Rattle.std.specs.Prelude.{◌∷◌, ◌++◌, flat_map, length}
use Rattle.plot_page.specs.Segments.{Segment}
use Rattle.plot_page.specs.declared.dots.Dots.{Dots}
use Rattle.plot_page.specs.declared.page.Page.{Page}
use Rattle.plot_page.specs.declared.pens.PenSet.{PenSet}
use Rattle.stroke_raster.specs.declared.vector.Vector.{Vector}
use Rattle.stroke_raster.specs.Covers.{in_window, first_end, drawn_width, covers_place}
use Rattle.stroke_raster.specs.Gap.{way, scaled, dot}
use Rattle.plot_page.specs.Pens.{has_pen}
use Rattle.plot_page.specs.Resolutions.{columns_of}
use Rattle.stroke_raster.specs.Shown.{row_shown, shown}
use Rattle.stroke_raster.specs.ShownShapes.{row_of_shapes}
use Rattle.stroke_raster.specs.Painting.{Painting, Reaches, painted_rows, rows_next, Moves}

-- a painter lends a band of these rows, and is `new` afterwards: the clauses of `next_band`
pub record Lends (reaches : Reaches) (old : Painting) (rows : List (List ℕ)) (new : Painting) : Type 0 where
  pub left : old.next < old.end
  pub rows_are : rows ≡ painted_rows reaches old old.next (rows_next old)
  pub moves : Moves old new

-- a painter lends these bands, and then none
abbrev pub LendsAll : Reaches → Painting → List (List (List ℕ)) → Type 0
LendsAll reaches p [] = p.end ≤ p.next
LendsAll reaches p (rows ∷ bands) = (new : Painting) × Lends reaches p rows new × LendsAll reaches new bands

-- the rows of all bands, joined, are the rows from the painter's next row to the last one that is painted
abbrev pub BandsAreTheRows : Type 0
BandsAreTheRows = (reaches : Reaches) (p : Painting) (bands : List (List (List ℕ))) → LendsAll reaches p bands →
    flat_map (λ rows. rows) bands ≡ painted_rows reaches p p.next (p.end - p.next)

-- a stroke covers nothing outside its window
abbrev pub WindowsClip : Type 0
WindowsClip = (s : Segment) (r : ℕ) (p : Vector) → in_window s.window r p ≡ false → covers_place s r p ≡ false

-- what a vector leads to is within half of d
abbrev pub is_in_disc : Vector → ℕ → Bool
is_in_disc v d = int_le (pos 4 *ℤ dot v v) (pos (d * d))

-- a stroke of length zero covers the disc about its place, within its window
abbrev pub DotsAreDiscs : Type 0
DotsAreDiscs = (s : Segment) (r : ℕ) (p : Vector) → s.bx ≡ s.ax → s.by ≡ s.ay →
    covers_place s r p
    ≡ (in_window s.window r p && is_in_disc (way (scaled (pos r) (first_end s)) p) (drawn_width s.width r))

-- where one more stroke of a selected pen covers a pixel, the pixel shows it; elsewhere, or for another pen, it shows
-- what it showed
pub record LaterStrokesCover : Type 0 where
  pub covered : (covers : Segment → ℕ → ℕ → Bool) (pens : PenSet) (strokes : List Segment) (s : Segment)
      (row column : ℕ) →
      has_pen pens s.pen ≡ true → covers s row column ≡ true →
      shown covers pens (strokes ++ (s ∷ [])) row column ≡ length strokes + 1
  pub elsewhere : (covers : Segment → ℕ → ℕ → Bool) (pens : PenSet) (strokes : List Segment) (s : Segment)
      (row column : ℕ) →
      covers s row column ≡ false →
      shown covers pens (strokes ++ (s ∷ [])) row column ≡ shown covers pens strokes row column
  pub other_pen : (covers : Segment → ℕ → ℕ → Bool) (pens : PenSet) (strokes : List Segment) (s : Segment)
      (row column : ℕ) →
      has_pen pens s.pen ≡ false →
      shown covers pens (strokes ++ (s ∷ [])) row column ≡ shown covers pens strokes row column

-- if no stroke is the edge of an area, a row shows the last strokes that reach its pixels
abbrev pub StrokesAlone : Type 0
StrokesAlone = (reaches : Reaches) (pens : PenSet) (strokes : List Segment) (page : Page) (dots : Dots) (row : ℕ) →
    row_of_shapes reaches pens strokes [] page dots row
    ≡ row_shown (λ s. reaches s page dots) pens strokes (columns_of page dots) row
