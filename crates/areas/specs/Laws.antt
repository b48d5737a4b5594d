-- What holds of areas.
use Rattle.std.specs.Prelude.{◌≡◌, ℕ, false, ◌&&◌, List, [], ◌∷◌, ◌++◌, map, ℤ, pos, ◌*ℤ◌, ◌<ℤ◌, int_le, int_lt}
use Rattle.std.specs.List.{All, flat_map}
use Rattle.plot_page.specs.Segments.{Segment}
use Rattle.polygons.specs.declared.lines.Rule.{Rule}
use Rattle.areas.specs.Inside.{is_inside_area}

-- the same edge, from its other end
abbrev pub turned : Segment → Segment
turned e = record { pen = e.pen; colour = e.colour; width = e.width; window = e.window; ax = e.bx; ay = e.by; bx = e.ax; by = e.ay }

-- edges that lead from a place to a place: each begins where the one before it ends
abbrev pub LeadsTo : ℤ → ℤ → List Segment → ℤ → ℤ → Type 0
LeadsTo x y [] u v = (x ≡ u) × (y ≡ v)
LeadsTo x y (e ∷ es) u v = (e.ax ≡ x) × (e.ay ≡ y) × LeadsTo e.bx e.by es u v

-- edges that lead round a closed polygon
pub record IsRound (edges : List Segment) : Type 0 where
  pub x : ℤ
  pub y : ℤ
  pub closed : LeadsTo x y edges x y

-- the edges of closed polygons, one after another
pub record AreRound (edges : List Segment) : Type 0 where
  pub polygons : List (List Segment)
  pub each : All IsRound polygons
  pub is : edges ≡ flat_map (λ polygon. polygon) polygons

-- both ends of an edge are right of a place, left of it, above it, or not above it
abbrev pub IsRightOf : ℕ → ℤ → Segment → Type 0
IsRightOf r x e = (x <ℤ (pos r *ℤ e.ax)) × (x <ℤ (pos r *ℤ e.bx))

abbrev pub IsLeftOf : ℕ → ℤ → Segment → Type 0
IsLeftOf r x e = ((pos r *ℤ e.ax) <ℤ x) × ((pos r *ℤ e.bx) <ℤ x)

abbrev pub IsAbove : ℕ → ℤ → Segment → Type 0
IsAbove r y e = (y <ℤ (pos r *ℤ e.ay)) × (y <ℤ (pos r *ℤ e.by))

abbrev pub IsBelow : ℕ → ℤ → Segment → Type 0
IsBelow r y e = ((pos r *ℤ e.ay) <ℤ y) × ((pos r *ℤ e.by) <ℤ y)

-- from which edge on, and in which direction, the edges are taken does not matter
pub record DirectionIsFree : Type 0 where
  pub turned : (rule : Rule) (r : ℕ) (edges : List Segment) (x y : ℤ)
      → is_inside_area rule r (map turned edges) x y ≡ is_inside_area rule r edges x y
  pub rotated : (rule : Rule) (r : ℕ) (front back : List Segment) (x y : ℤ)
      → is_inside_area rule r (back ++ front) x y ≡ is_inside_area rule r (front ++ back) x y

-- no place outside the box of the edges is inside
pub record AreasStayInTheirBox : Type 0 where
  pub left : (rule : Rule) (r : ℕ) (edges : List Segment) (x y : ℤ) → All (IsRightOf r x) edges → is_inside_area rule r edges x y ≡ false
  pub right : (rule : Rule) (r : ℕ) (edges : List Segment) (x y : ℤ)
      → AreRound edges → All (IsLeftOf r x) edges → is_inside_area rule r edges x y ≡ false
  pub below : (rule : Rule) (r : ℕ) (edges : List Segment) (x y : ℤ) → All (IsAbove r y) edges → is_inside_area rule r edges x y ≡ false
  pub above : (rule : Rule) (r : ℕ) (edges : List Segment) (x y : ℤ) → All (IsBelow r y) edges → is_inside_area rule r edges x y ≡ false

-- the edges of a rectangle whose lower left corner is (x0, y0), counterclockwise, with the other values of some stroke
abbrev pub edge_between : Segment → ℤ → ℤ → ℤ → ℤ → Segment
edge_between s ax ay bx by = record { pen = s.pen; colour = s.colour; width = s.width; window = s.window; ax = ax; ay = ay; bx = bx; by = by }

abbrev pub rectangle : Segment → ℤ → ℤ → ℤ → ℤ → List Segment
rectangle s x0 y0 x1 y1 =
    edge_between s x0 y0 x1 y0 ∷ edge_between s x1 y0 x1 y1 ∷ edge_between s x1 y1 x0 y1 ∷ edge_between s x0 y1 x0 y0 ∷ []

-- inside a rectangle is what is between its sides: the left and the lower one are, the right and the upper one are not
abbrev pub RectanglesAreBetweenSides : Type 0
RectanglesAreBetweenSides = (rule : Rule) (r : ℕ) (s : Segment) (x0 y0 x1 y1 x y : ℤ) → x0 <ℤ x1 → y0 <ℤ y1
    → is_inside_area rule r (rectangle s x0 y0 x1 y1) x y
    ≡ ((int_le (pos r *ℤ x0) x && int_lt x (pos r *ℤ x1)) && (int_le (pos r *ℤ y0) y && int_lt y (pos r *ℤ y1)))
