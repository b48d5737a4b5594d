-- What holds of polygons and of what fills them.
use Rattle.std.specs.Prelude.{◌≡◌, ◌<◌, ◌<ℤ◌, ◌≤ℤ◌, ℤ, Bool, true, List, [], ◌∷◌, ◌++◌, filter, MatchOption, None, int_lt}
use Rattle.std.specs.List.{All, Any, Contains, list_any, flat_map}
use Rattle.exact.specs.declared.spot.Spot.{Spot}
use Rattle.polygons.specs.declared.edge.Edge.{Edge}
use Rattle.polygons.specs.declared.span.Span.{Span}
use Rattle.polygons.specs.declared.lines.Lines.{Lines}
use Rattle.polygons.specs.declared.lines.Rule.{Rule}
use Rattle.polygons.specs.Buffers.{Contents, empty_buffer, begun_at, reached_at, closed}
use Rattle.polygons.specs.Fills.{Crossing, rank, crosses, crossings, is_inside_after, line_spans, filled, spans}

-- edges that lead from p to q: each begins where the one before it ends
abbrev pub IsPath : Spot → List Edge → Spot → Type 0
IsPath p [] q = p ≡ q
IsPath p (e ∷ es) q = (e.from ≡ p) × IsPath e.to es q

-- the edges of a closed sub-polygon: the last one ends where the first begins
pub record IsLoop (path : List Edge) : Type 0 where
  pub start : Spot
  pub closed : IsPath start path start

-- the edges of closed sub-polygons, one after another
pub record AreLoops (edges : List Edge) : Type 0 where
  pub loops : List (List Edge)
  pub each : All IsLoop loops
  pub is : edges ≡ flat_map (λ loop. loop) loops

-- closed sub-polygons, and then the path of the open one
pub record HoldsPolygons (c : Contents) : Type 0 where
  pub loops : List Edge
  pub path : List Edge
  pub are_loops : AreLoops loops
  pub is : c.edges ≡ loops ++ path
  pub opened_is : MatchOption c.opened (path ≡ []) (λ o. IsPath o.first path o.last × (o.is_alone ≡ true → path ≡ []))

-- each call of a buffer keeps this; if no sub-polygon is open, its edges are those of closed ones
pub record BuffersHoldPolygons : Type 0 where
  pub empty : HoldsPolygons empty_buffer
  pub begun : (c : Contents) (p : Spot) → HoldsPolygons c → HoldsPolygons (begun_at c p)
  pub reached : (c : Contents) (p : Spot) (drawn : Bool) → HoldsPolygons c → HoldsPolygons (reached_at c p drawn)
  pub closed : (c : Contents) (drawn : Bool) → HoldsPolygons c → HoldsPolygons (closed c drawn)
  pub loops : (c : Contents) → HoldsPolygons c → c.opened ≡ None → AreLoops c.edges

-- a place is in a box with these corners
pub record IsInBox (low high p : Spot) : Type 0 where
  pub left : low.x ≤ℤ p.x
  pub right : p.x ≤ℤ high.x
  pub below : low.y ≤ℤ p.y
  pub above : p.y ≤ℤ high.y

-- what fills polygons stays in each box that their edges are in
abbrev pub FillsStay : Type 0
FillsStay = (lines : Lines) (rule : Rule) (edges : List Edge) (low high : Spot)
    → All (λ e. IsInBox low high e.from × IsInBox low high e.to) edges
    → All (λ s. IsInBox low high s.from × IsInBox low high s.to) (spans lines rule edges)

-- the crossings of line k of a lower rank than r
abbrev pub lower : Lines → List Edge → ℤ → ℤ → List Crossing
lower lines edges k r = filter (λ c. int_lt (rank lines c.place) r) (crossings lines k edges)

-- a rank is between those of a span's ends
pub record IsBetween (lines : Lines) (r : ℤ) (span : Span) : Type 0 where
  pub after : rank lines span.from <ℤ r
  pub before : r <ℤ rank lines span.to

pub record FillsAreSolid : Type 0 where
  -- a place of line k that is inside closed sub-polygons by its rank r, and on no edge, is in a span of the line
  pub inside : (lines : Lines) (rule : Rule) (edges : List Edge) (k r : ℤ) → AreLoops edges
      → is_inside_after rule (lower lines edges k r) ≡ true
      → All (λ c. ¬ (rank lines c.place ≡ r)) (crossings lines k edges)
      → Any (IsBetween lines r) (line_spans lines rule edges k)
  -- and the spans of each line that an edge crosses are among those that fill
  pub line : (lines : Lines) (rule : Rule) (edges : List Edge) (k : ℤ) → 0 < lines.apart
      → list_any (crosses lines k) edges ≡ true
      → Contains (filled lines rule edges) (line_spans lines rule edges k)
