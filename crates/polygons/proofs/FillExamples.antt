-- The spans that fill some polygons.
use Rattle.std.proofs.Common.{refl, true, List, [], ◌∷◌, ℤ, pos}
use Rattle.exact.specs.declared.spot.Spot.{Spot}
use Rattle.exact.proofs.Tables.{Agree, at}
use Rattle.polygons.specs.declared.edge.Edge.{Edge}
use Rattle.polygons.specs.declared.span.Span.{Span}
use Rattle.polygons.specs.declared.lines.Lines.{Lines}
use Rattle.polygons.specs.declared.lines.Rule.TheVariants.{OddCounts, Winding}
use Rattle.polygons.specs.Fills.{filled_from, filled, spans}

abbrev edge : Spot → Spot → Edge
edge a b = record { from = a; to = b; is_drawn = true }

abbrev span : ℤ → ℤ → ℤ → ℤ → Span
span ax ay bx by = record { from = at ax ay; to = at bx by }

-- a plotter unit apart, from left to right, half a unit above the corner
abbrev solid : Lines
solid = record { angle = pos 0; apart = 4096; anchor = at (pos 0) (pos 8) }

-- 4 units wide and 3 units high, counterclockwise
abbrev rectangle : ℤ → ℤ → ℤ → ℤ → List Edge
rectangle l b r t =
    edge (at l b) (at r b) ∷ edge (at r b) (at r t) ∷ edge (at r t) (at l t) ∷ edge (at l t) (at l b) ∷ []

-- what is filled, line by line
fills : Agree (
    (filled solid OddCounts [], [])  -- nothing to fill
    -- a rectangle
    ∷ (filled solid OddCounts (rectangle (pos 0) (pos 0) (pos 64) (pos 48)), (span (pos 0) (pos 8) (pos 64) (pos 8) ∷ []) ∷ (span (pos 0) (pos 24) (pos 64) (pos 24) ∷ []) ∷ (span (pos 0) (pos 40) (pos 64) (pos 40) ∷ []) ∷ [])
    -- the line through the lower edge crosses the sides at its ends, and the one through the upper edge crosses nothing
    ∷ (filled (record solid { anchor = at (pos 0) (pos 0) }) OddCounts (rectangle (pos 0) (pos 0) (pos 64) (pos 32)), (span (pos 0) (pos 0) (pos 64) (pos 0) ∷ []) ∷ (span (pos 0) (pos 16) (pos 64) (pos 16) ∷ []) ∷ [])
    ∷ [])
unfolding filled_from filled spans
fills = refl

-- a square with another inside, in the same direction
abbrev nested : List Edge
nested =
    edge (at (pos 0) (pos 0)) (at (pos 48) (pos 0))
    ∷ edge (at (pos 48) (pos 0)) (at (pos 48) (pos 48))
    ∷ edge (at (pos 48) (pos 48)) (at (pos 0) (pos 48))
    ∷ edge (at (pos 0) (pos 48)) (at (pos 0) (pos 0))
    ∷ rectangle (pos 16) (pos 16) (pos 32) (pos 32)

-- the spans that fill, from the first to the last
fill_spans : Agree (
    -- by odd counts the inner square is a hole
    (spans solid OddCounts nested, span (pos 0) (pos 8) (pos 48) (pos 8) ∷ span (pos 0) (pos 24) (pos 16) (pos 24) ∷ span (pos 32) (pos 24) (pos 48) (pos 24) ∷ span (pos 0) (pos 40) (pos 48) (pos 40) ∷ [])
    -- by winding it is filled
    ∷ (spans solid Winding nested, span (pos 0) (pos 8) (pos 48) (pos 8) ∷ span (pos 0) (pos 24) (pos 16) (pos 24) ∷ span (pos 16) (pos 24) (pos 32) (pos 24) ∷ span (pos 32) (pos 24) (pos 48) (pos 24) ∷ span (pos 0) (pos 40) (pos 48) (pos 40) ∷ [])
    -- upwards, from right to left, two units apart
    ∷ (spans (record { angle = pos 90000; apart = 8192; anchor = at (pos 16) (pos 0) }) OddCounts (rectangle (pos 0) (pos 0) (pos 64) (pos 48)), span (pos 48) (pos 0) (pos 48) (pos 48) ∷ span (pos 16) (pos 0) (pos 16) (pos 48) ∷ [])
    -- a triangle by lines at 45 degrees, 32 grains apart
    ∷ (spans (record { angle = pos 45000; apart = 8192; anchor = at (pos 0) (pos 0) }) OddCounts (edge (at (pos 0) (pos 0)) (at (pos 100) (pos 0)) ∷ edge (at (pos 100) (pos 0)) (at (pos 0) (pos 100)) ∷ edge (at (pos 0) (pos 100)) (at (pos 0) (pos 0)) ∷ []), span (pos 91) (pos 0) (pos 95) (pos 5) ∷ span (pos 45) (pos 0) (pos 73) (pos 27) ∷ span (pos 0) (pos 0) (pos 50) (pos 50) ∷ span (pos 0) (pos 45) (pos 27) (pos 73) ∷ span (pos 0) (pos 91) (pos 5) (pos 95) ∷ [])
    -- half a grain is rounded up, on the way up and on the way down
    ∷ (spans solid OddCounts (edge (at (pos 0) (pos 0)) (at (pos 1) (pos 16)) ∷ edge (at (pos 1) (pos 16)) (at (pos 31) (pos 16)) ∷ edge (at (pos 31) (pos 16)) (at (pos 0) (pos 0)) ∷ []), span (pos 1) (pos 8) (pos 16) (pos 8) ∷ [])
    ∷ [])
unfolding filled_from filled spans
fill_spans = refl
