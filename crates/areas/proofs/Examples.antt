-- Which places are inside some areas. The resolution is 1, so places are in grains; a plotter unit has 16.
use Rattle.std.proofs.Common.{ℤ, pos, Bool, true, false, List, [], ◌∷◌, ◌++◌, map, refl}
use Rattle.exact.proofs.Tables.{Agree}
use Rattle.plot_page.specs.Segments.{Segment}
use Rattle.polygons.specs.declared.lines.Rule.{Rule}
use Rattle.polygons.specs.declared.lines.Rule.TheVariants.{OddCounts, Winding}
use Rattle.areas.specs.Inside.{is_inside_area}
use Rattle.areas.specs.Laws.{turned}

abbrev edge : ℤ → ℤ → ℤ → ℤ → Segment
edge ax ay bx by = record {
  pen = 1;
  colour = record { red = 0; green = 0; blue = 0 };
  width = 0;
  window = record { x0 = pos 0; y0 = pos 0; x1 = pos 1024; y1 = pos 1024 };
  ax = ax;
  ay = ay;
  bx = bx;
  by = by;
}

-- a square, counterclockwise
abbrev square : ℤ → ℤ → List Segment
square a b = edge a a b a ∷ edge b a b b ∷ edge b b a b ∷ edge a b a a ∷ []

abbrev at : Rule → List Segment → ℤ → ℤ → Bool
at rule edges x y = is_inside_area rule 1 edges x y

-- the left and the lower side of a square are inside, the right and the upper one are not
of_a_square : Agree (
    (at OddCounts (square (pos 256) (pos 768)) (pos 256) (pos 256), true)
    ∷ (at OddCounts (square (pos 256) (pos 768)) (pos 767) (pos 767), true)
    ∷ (at Winding (square (pos 256) (pos 768)) (pos 767) (pos 256), true)
    ∷ (at OddCounts (square (pos 256) (pos 768)) (pos 255) (pos 300), false)
    ∷ (at OddCounts (square (pos 256) (pos 768)) (pos 768) (pos 300), false)
    ∷ (at Winding (square (pos 256) (pos 768)) (pos 300) (pos 768), false)
    ∷ (at OddCounts [] (pos 0) (pos 0), false)
    ∷ [])
of_a_square = refl

abbrev outer : List Segment
outer = square (pos 0) (pos 1024)

abbrev inner : List Segment
inner = square (pos 384) (pos 640)

-- a square within a square is a hole by odd counts, and by winding if it leads the other way round
of_a_hole : Agree (
    (at OddCounts (outer ++ inner) (pos 400) (pos 400), false)
    ∷ (at OddCounts (outer ++ inner) (pos 100) (pos 400), true)
    ∷ (at Winding (outer ++ inner) (pos 400) (pos 400), true)
    ∷ (at Winding (outer ++ map turned inner) (pos 400) (pos 400), false)
    ∷ (at Winding (outer ++ map turned inner) (pos 700) (pos 400), true)
    ∷ [])
of_a_hole = refl

abbrev triangle : List Segment
triangle = edge (pos 0) (pos 0) (pos 1024) (pos 0) ∷ edge (pos 1024) (pos 0) (pos 0) (pos 1024) ∷ edge (pos 0) (pos 1024) (pos 0) (pos 0) ∷ []

-- a place on a slanted side that leads upwards is past it; an edge without height is never passed
of_a_triangle : Agree (
    (at OddCounts triangle (pos 512) (pos 512), false)
    ∷ (at OddCounts triangle (pos 511) (pos 512), true)
    ∷ (at OddCounts triangle (pos 0) (pos 1023), true)
    ∷ (at OddCounts (edge (pos 0) (pos 480) (pos 1024) (pos 480) ∷ edge (pos 1024) (pos 480) (pos 0) (pos 480) ∷ []) (pos 512) (pos 480), false)
    ∷ [])
of_a_triangle = refl
