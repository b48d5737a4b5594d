-- What the polygon buffer holds after some calls.
use Rattle.std.proofs.Common.{◌≡◌, refl, Bool, true, false, [], ◌∷◌, Some, None, pos, negsuc}
use Rattle.exact.specs.declared.spot.Spot.{Spot}
use Rattle.polygons.specs.declared.edge.Edge.{Edge}
use Rattle.polygons.specs.Buffers.{Contents, empty_buffer, begun_at, reached_at, closed}

abbrev a : Spot
a = record { x = pos 0; y = pos 0 }

abbrev b : Spot
b = record { x = pos 16; y = pos 0 }

abbrev c : Spot
c = record { x = pos 16; y = negsuc 15 }

abbrev edge : Spot → Spot → Bool → Edge
edge p q drawn = record { from = p; to = q; is_drawn = drawn }

-- a triangle: two edges, then the close
abbrev triangle : Contents
triangle = closed (reached_at (reached_at (begun_at empty_buffer a) b true) c false) true

triangle_is : triangle ≡ record { edges = edge a b true ∷ edge b c false ∷ edge c a true ∷ []; places = 3; opened = None }
triangle_is = refl

-- a second sub-polygon begins with the place that is reached; its last place is its first, so it closes without an edge
second_is : closed (reached_at (reached_at (reached_at triangle b true) c true) b true) true
    ≡ record {
      edges = edge a b true ∷ edge b c false ∷ edge c a true ∷ edge b c true ∷ edge c b true ∷ [];
      places = 6;
      opened = None;
    }
second_is = refl

-- a sub-polygon of one place is dropped
alone_is : closed (begun_at triangle b) true ≡ triangle
alone_is = refl

-- while one is open, another is not opened
open_is : begun_at (begun_at empty_buffer a) b
    ≡ record { edges = []; places = 1; opened = Some (record { first = a; last = a; is_alone = true }) }
open_is = refl

-- nothing to close
nothing_is : closed triangle false ≡ triangle
nothing_is = refl
