-- Laws of the page around a drawing.
use Rattle.std.specs.Prelude.{◌≡◌, ℕ, ◌*◌, true, false, pos, ◌+ℤ◌, ◌≤ℤ◌, ◌<ℤ◌, List, All, Some}
use Rattle.std.specs.Int.{int_max}
use Rattle.plot_page.specs.Pens.{has_pen}
use Rattle.plot_page.specs.Segments.{Segment}
use Rattle.plot_page.specs.declared.page.Page.{Page}
use Rattle.plot_page.specs.declared.pens.PenSet.{PenSet}
use Rattle.page_fit.specs.Around.{corner_around, sides_around, sides_of}
use Rattle.page_fit.specs.Extents.{extent_of, is_empty, seen}
use Rattle.page_fit.specs.Moves.{moved}
use Rattle.page_fit.specs.declared.around.Corner.{Corner}
use Rattle.page_fit.specs.declared.extent.Extent.{Extent}

-- an extent, moved as strokes are
abbrev pub moved_extent : Corner → Extent → Extent
moved_extent c e = record {
  least_x = moved c.x e.least_x;
  least_y = moved c.y e.least_y;
  greatest_x = moved c.x e.greatest_x;
  greatest_y = moved c.y e.greatest_y;
}

-- an extent lies on a page with this margin in millimetres, of 640 grains each, on each side
pub record LiesOn (margin : ℕ) (page : Page) (e : Extent) : Type 0 where
  pub left : pos (640 * margin) ≤ℤ e.least_x
  pub below : pos (640 * margin) ≤ℤ e.least_y
  pub right : (e.greatest_x +ℤ pos (640 * margin)) ≤ℤ pos (16 * page.width)
  pub above : (e.greatest_y +ℤ pos (640 * margin)) ≤ℤ pos (16 * page.height)

-- and on each side less than a plotter unit of 16 grains more is free, unless the page is as small as a page can be
pub record LiesTightlyOn (margin : ℕ) (page : Page) (e : Extent) : Type 0 where
  pub left : e.least_x <ℤ (pos (640 * margin) +ℤ pos 16)
  pub below : e.least_y <ℤ (pos (640 * margin) +ℤ pos 16)
  pub right : pos (16 * page.width) ≤ℤ int_max (pos 1024) (e.greatest_x +ℤ pos (640 * margin) +ℤ pos 15)
  pub above : pos (16 * page.height) ≤ℤ int_max (pos 1024) (e.greatest_y +ℤ pos (640 * margin) +ℤ pos 15)

-- all that is seen of the strokes of the selected pens lies on the page around them, with its margin, when it is moved; and no
-- page around them is smaller
pub record LieOnThePage (pens : PenSet) (margin : ℕ) (on around : Page) (strokes : List Segment) (e : Extent) : Type 0 where
  pub seen : All (λ s. has_pen pens s.pen ≡ true → is_empty (seen on s) ≡ false →
      LiesOn margin around (moved_extent (corner_around margin e) (seen on s))) strokes
  pub tight : LiesTightlyOn margin around (moved_extent (corner_around margin e) e)

abbrev pub SeenStrokesLieOnThePage : Type 0
SeenStrokesLieOnThePage =
    (pens : PenSet) (longest margin : ℕ) (on around : Page) (strokes : List Segment) (e : Extent) →
    extent_of pens on strokes ≡ Some e → sides_around longest margin e ≡ Some (sides_of around) →
    LieOnThePage pens margin on around strokes e
