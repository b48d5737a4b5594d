-- What holds of the places on arcs and on Bezier curves.
use Rattle.std.specs.Prelude.{◌≡◌, ◌⊎◌, ℕ, ◌-◌, ◌*◌, ◌^◌, ◌<◌, ◌≤◌, List, [], ◌∷◌, ◌++◌, length, IfSome, ℤ, pos, ◌+ℤ◌, ◌-ℤ◌, ◌*ℤ◌, ◌<ℤ◌}
use Rattle.std.specs.List.{All}
use Rattle.exact.specs.Fraction.{Fraction}
use Rattle.exact.specs.Rounding.{IsRounded}
use Rattle.exact.specs.declared.spot.Spot.{Spot}
use Rattle.directions.specs.Directions.{square_of}
use Rattle.curves.specs.Vectors.{cross, dot, way}
use Rattle.curves.specs.Arcs.{between, place_at, circle_through, arc_places}
use Rattle.curves.specs.Beziers.{weighed, curve_place, bezier_places}
use Rattle.curves.specs.Bounds.{IsNotZero}
use Rattle.curves.specs.declared.circle.Circle.{Circle}

-- from a circle's start to where the line in the direction d meets the circle again, in x and in y, not yet rounded
abbrev pub reach_x : Circle → Spot → Fraction
reach_x circle d = record { over = d.x *ℤ (pos 2 *ℤ dot circle.centre d); under = 256 * square_of d }

abbrev pub reach_y : Circle → Spot → Fraction
reach_y circle d = record { over = d.y *ℤ (pos 2 *ℤ dot circle.centre d); under = 256 * square_of d }

-- the vector p = (x / under, y / under) leads from a circle's start to a point of the circle: |p|^2 is twice the dot
-- product of p and centre / 256, both multiplied by 256 * under^2
abbrev pub IsOnCircle : Circle → ℕ → ℤ → ℤ → Type 0
IsOnCircle circle under x y =
    pos 256 *ℤ (x *ℤ x +ℤ y *ℤ y) ≡ pos (2 * under) *ℤ (circle.centre.x *ℤ x +ℤ circle.centre.y *ℤ y)

-- a place on a circle: a point of the circle, rounded once in x and once in y
pub record IsPlaceOn (circle : Circle) (d : Spot) : Type 0 where
  pub on_circle : IsOnCircle circle (256 * square_of d) (reach_x circle d).over (reach_y circle d).over
  pub x : IsRounded (reach_x circle d) ((place_at circle d).x -ℤ circle.start.x)
  pub y : IsRounded (reach_y circle d) ((place_at circle d).y -ℤ circle.start.y)

-- in every direction the line from a circle's start leads to such a place, and all directions of an arc do
pub record ArcPlacesAreOnCircle : Type 0 where
  pub each : (circle : Circle) (d : Spot) → IsNotZero d → IsPlaceOn circle d
  pub all : (a b c : Spot) → IfSome (circle_through a b c)
      (λ circle. All (IsPlaceOn circle) (between circle.clockwise 6 circle.first circle.last))

-- the vector from a circle's start to its point in the direction d, from which a place is rounded, multiplied by 256 * |d|^2
abbrev pub reach_vector : Circle → Spot → Spot
reach_vector circle d = record { x = (reach_x circle d).over; y = (reach_y circle d).over }

-- the centre is at most 2^15 times as far from the start as the place at c after the start: any other arc is nearly a line, or
-- nearly a whole circle
abbrev pub IsBent : Circle → Spot → Type 0
IsBent circle c = square_of circle.centre ≤ 2 ^ 46 * square_of c

-- the point of the circle in the direction d is on the side of the line along c on which b is
abbrev pub IsBeside : Spot → Spot → Circle → Spot → Type 0
IsBeside b c circle d = pos 0 <ℤ (cross b c *ℤ cross (reach_vector circle d) c)

-- all points of the circle from which the places of an arc are rounded are on the side of the line from a to c on which b is:
-- the arc goes round by b, and not the other way round
abbrev pub ArcsPassTheirMiddle : Type 0
ArcsPassTheirMiddle = (a b c : Spot) → IfSome (circle_through a b c)
    (λ circle. IsBent circle (way a c)
    → All (IsBeside (way a b) (way a c) circle) (between circle.clockwise 6 circle.first circle.last))

-- the last of these places
pub record EndsAt (places : List Spot) (last : Spot) : Type 0 where
  pub before : List Spot
  pub is : places ≡ before ++ (last ∷ [])

-- an arc ends at its third place, and has 1, 2 or 64 places
pub record ArcsEndAtLast : Type 0 where
  pub ends : (a b c : Spot) → EndsAt (arc_places a b c) c
  pub count : (a b c : Spot)
      → (length (arc_places a b c) ≡ 1) ⊎ ((length (arc_places a b c) ≡ 2) ⊎ (length (arc_places a b c) ≡ 64))

-- a Bezier curve ends at its fourth place
abbrev pub BeziersEndAtLast : Type 0
BeziersEndAtLast = (p0 p1 p2 p3 : Spot) → EndsAt (bezier_places p0 p1 p2 p3) p3

-- the sum of four coordinates by their weights after k of n parts, not yet rounded
abbrev pub reach : ℕ → ℕ → ℤ → ℤ → ℤ → ℤ → Fraction
reach n k p0 p1 p2 p3 = record { over = weighed (n - k) k p0 p1 p2 p3; under = n * n * n }

-- the place after k of n parts is this sum, rounded once in x and once in y
pub record BezierPlacesAreRounded : Type 0 where
  pub x : (n k : ℕ) (p0 p1 p2 p3 : Spot) → 0 < n
      → IsRounded (reach n k p0.x p1.x p2.x p3.x) (curve_place n k p0 p1 p2 p3).x
  pub y : (n k : ℕ) (p0 p1 p2 p3 : Spot) → 0 < n
      → IsRounded (reach n k p0.y p1.y p2.y p3.y) (curve_place n k p0 p1 p2 p3).y
