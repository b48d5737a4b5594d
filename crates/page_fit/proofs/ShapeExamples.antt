-- Worked examples: how far areas are seen, and how their edges are counted, on a page of 64 by 64 units, or 1,024 by 1,024 grains.
use Rattle.std.proofs.Common.{◌≡◌, ◌∷◌, [], ℕ, ℤ, pos, negsuc, List, Option, Some, None, true, false, refl, replicate, set}
use Rattle.polygons.specs.declared.lines.Rule.TheVariants.{OddCounts}
use Rattle.areas.specs.Shapes.{ShapeList, plain}
use Rattle.plot_page.specs.Segments.{Segment}
use Rattle.plot_page.specs.declared.pens.PenSet.{PenSet}
use Rattle.plot_page.specs.declared.window.Window.{Window}
use Rattle.page_fit.specs.Moves.{empty_window, page_window}
use Rattle.page_fit.specs.Shapes.{diagonal, shapes_census, shapes_extent}
use Rattle.page_fit.specs.declared.census.Census.{Census}
use Rattle.page_fit.specs.declared.extent.Extent.{Extent}
use Rattle.page_fit.proofs.FitExamples.{Agree, square, stroke, stroke_in, window}

abbrev all_pens : PenSet
all_pens = record { chosen = replicate 256 true }

abbrev pen_2 : PenSet
pen_2 = record { chosen = set (replicate 256 false) 2 true }

-- the edges of a square in a window, by its sides, with a pen
abbrev edges_in : ℕ → Window → ℤ → ℤ → List Segment
edges_in pen w low high =
    let edge : ℤ → ℤ → ℤ → ℤ → Segment = λ ax ay bx by. record (stroke_in w 0 ax ay bx by) { pen = pen } in
    edge low low high low ∷ edge high low high high ∷ edge high high low high ∷ edge low high low low ∷ []

-- the same as an area of pen 1
abbrev square_in : Window → ℤ → ℤ → ShapeList
square_in w low high = record { strokes = edges_in 1 w low high; areas = record { first = 0; end = 4; rule = OddCounts } ∷ [] }

-- two triangles, of the pens 1 and 2, and a line between them
abbrev triangles : ShapeList
triangles = record {
  strokes =
      stroke 0 (pos 0) (pos 0) (pos 320) (pos 0) ∷ stroke 0 (pos 320) (pos 0) (pos 160) (pos 400) ∷ stroke 0 (pos 160) (pos 400) (pos 0) (pos 0)
      ∷ stroke 32 (pos 400) (pos 0) (pos 400) (pos 80)
      ∷ record (stroke 0 (pos 480) (pos 0) (pos 800) (pos 16)) { pen = 2 } ∷ record (stroke 0 (pos 800) (pos 16) (pos 640) (pos 560)) { pen = 2 }
      ∷ record (stroke 0 (pos 640) (pos 560) (pos 480) (pos 0)) { pen = 2 } ∷ [];
  areas = record { first = 0; end = 3; rule = OddCounts } ∷ record { first = 4; end = 7; rule = OddCounts } ∷ [];
}

abbrev extent : ℤ → ℤ → ℤ → ℤ → Option Extent
extent x0 y0 x1 y1 = Some (record { least_x = x0; least_y = y0; greatest_x = x1; greatest_y = y1 })

extents : Agree (
    -- a window inside of a square is seen whole, although no edge is in it
    (shapes_extent all_pens square (square_in (window (pos 160) (pos 160) (pos 320) (pos 480)) (pos 0) (pos 1000)), extent (pos 160) (pos 160) (pos 320) (pos 480))
    -- the same edges as strokes are not seen
    ∷ (shapes_extent all_pens square (plain (edges_in 1 (window (pos 160) (pos 160) (pos 320) (pos 480)) (pos 0) (pos 1000))), None)
    -- a window beside a square, and one that is empty
    ∷ (shapes_extent all_pens square (square_in (window (pos 160) (pos 0) (pos 320) (pos 480)) (pos 480) (pos 1000)), None)
    ∷ (shapes_extent all_pens square (square_in empty_window (pos 0) (pos 1000)), None)
    -- the page does not cut what is larger
    ∷ (shapes_extent all_pens square (square_in (page_window square) (negsuc 159) (pos 1600)), extent (negsuc 159) (negsuc 159) (pos 1600) (pos 1600))
    -- a line has its width, and an area none
    ∷ (shapes_extent all_pens square triangles, extent (pos 0) (negsuc 15) (pos 800) (pos 560))
    ∷ (shapes_extent pen_2 square triangles, extent (pos 480) (pos 0) (pos 800) (pos 560))
    ∷ [])
extents = refl

-- the diagonal of one stroke is the stroke, also downwards
one_stroke : diagonal (stroke 7 (pos 9) (pos 8) (pos 0) (pos 1)) [] ≡ stroke 7 (pos 9) (pos 8) (pos 0) (pos 1)
one_stroke = refl

three_edges : diagonal (stroke 0 (pos 0) (pos 0) (pos 320) (pos 0)) (stroke 0 (pos 320) (pos 0) (pos 160) (pos 400) ∷ stroke 0 (pos 160) (pos 400) (pos 0) (pos 0) ∷ [])
    ≡ stroke 0 (pos 0) (pos 0) (pos 320) (pos 400)
three_edges = refl

abbrev census : ℕ → ℕ → ℕ → Census
census strokes off_page cut = record { strokes = strokes; off_page = off_page; cut = cut }

counts : Agree (
    (shapes_census all_pens square (square_in (page_window square) (pos 160) (pos 800)), census 4 0 0)
    -- a square around the page: the page is inside of it
    ∷ (shapes_census all_pens square (square_in (page_window square) (negsuc 159) (pos 1600)), census 4 0 4)
    -- the same edges as strokes
    ∷ (shapes_census all_pens square (plain (edges_in 1 (page_window square) (negsuc 159) (pos 1600))), census 4 4 0)
    -- an area beside the page, and one that reaches it
    ∷ (shapes_census all_pens square (square_in (page_window square) (pos 1025) (pos 1600)), census 4 4 0)
    ∷ (shapes_census all_pens square (square_in (page_window square) (pos 1024) (pos 1600)), census 4 0 4)
    -- an edge that is off the page by itself is cut at its edge
    ∷ (shapes_census all_pens square (square_in (page_window square) (negsuc 159) (pos 320)), census 4 0 4)
    -- a window cuts it
    ∷ (shapes_census all_pens square (square_in (window (pos 0) (pos 0) (pos 320) (pos 320)) (negsuc 159) (pos 320)), census 4 0 0)
    ∷ (shapes_census all_pens square triangles, census 7 0 0)
    ∷ (shapes_census pen_2 square triangles, census 3 0 0)
    ∷ [])
counts = refl
