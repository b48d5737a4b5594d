-- Arcs through three places (HP-GL/2 guide: AT and RT): from a through b to c, in grains.
use Rattle.std.specs.Prelude.{ℕ, zero, suc, ◌*◌, ◌^◌, max, nat_abs, nat_lt, Bool, false, if◌then◌else◌}
use Rattle.std.specs.Prelude.{List, [], ◌∷◌, ◌++◌, map, Option, Some, None, pos, int_lt, int_le, ◌+ℤ◌, ◌-ℤ◌, ◌*ℤ◌}
use Rattle.std.specs.Ordering.{int_eq}
use Rattle.exact.specs.Fraction.{round, quotient}
use Rattle.exact.specs.Spots.{is_same_spot}
use Rattle.exact.specs.declared.spot.Spot.{Spot}
use Rattle.directions.specs.Directions.{square_of, vector_turned}
use Rattle.directions.specs.declared.turn.Turn.TheVariants.{Half}
use Rattle.curves.specs.Vectors.{way, sum_of, dot, cross, turned_against, unit_of}
use Rattle.curves.specs.declared.circle.Circle.{Circle}

-- from a to the centre of the circle through a, a + b and a + c, in ticks of 1/256 grain
abbrev pub centre_of : Spot → Spot → Spot
centre_of b c =
    let twice = pos 2 *ℤ cross b c in
    record {
      x = round (quotient (pos 256 *ℤ (pos (square_of b) *ℤ c.y -ℤ pos (square_of c) *ℤ b.y)) twice);
      y = round (quotient (pos 256 *ℤ (pos (square_of c) *ℤ b.x -ℤ pos (square_of b) *ℤ c.x)) twice);
    }

-- the arc from a through a + b to a + c: it sets out at a right angle to the way to its centre
unfoldable pub circle_by : Spot → Spot → Spot → Circle
circle_by a b c =
    let clockwise = int_lt (cross b c) (pos 0) in
    let centre = centre_of b c in
    record {
      start = a;
      centre = centre;
      clockwise = clockwise;
      first = unit_of (turned_against clockwise centre);
      last = unit_of c;
    }

-- the whole circle from a through a + b back to a, counterclockwise: its centre is halfway to b
unfoldable pub whole_circle : Spot → Spot → Circle
whole_circle a b =
    let first = unit_of (turned_against false b) in
    record {
      start = a;
      centre = record { x = pos 128 *ℤ b.x; y = pos 128 *ℤ b.y };
      clockwise = false;
      first = first;
      last = vector_turned Half first;
    }

-- the circle through three places; none if they are on one line
abbrev pub circle_through : Spot → Spot → Spot → Option Circle
circle_through a b c =
    if is_same_spot c a then (if is_same_spot b a then None else Some (whole_circle a (way a b)))
    else if int_eq (cross (way a b) (way a c)) (pos 0) then None
    else Some (circle_by a (way a b) (way a c))

-- midway from the direction p to q in an arc's sense: along their sum, or at a right angle to their difference if they
-- are more than 90 degrees apart
unfoldable pub middle : Bool → Spot → Spot → Spot
middle clockwise p q =
    if int_le (pos 0) (dot p q) then unit_of (sum_of p q) else unit_of (turned_against clockwise (way p q))

-- the directions between p and q, in order, after a middle was put between all neighbours k times
unfoldable pub between : Bool → ℕ → Spot → Spot → List Spot
between clockwise zero p q = []
between clockwise (suc k) p q =
    let m = middle clockwise p q in
    between clockwise k p m ++ (m ∷ between clockwise k m q)

-- where the line from a circle's start in the direction d meets the circle again: d * 2(v.d) / (d.d) away, by the dot
-- products of v and d and of d and d; v is the way to the centre in grains, 1/256 of that in ticks
unfoldable pub place_at : Circle → Spot → Spot
place_at circle d =
    let along = pos 2 *ℤ dot circle.centre d in
    let under = pos (256 * square_of d) in
    record {
      x = circle.start.x +ℤ round (quotient (d.x *ℤ along) under);
      y = circle.start.y +ℤ round (quotient (d.y *ℤ along) under);
    }

-- the centre is over 2^40 ticks away in x or in y
abbrev pub is_far : Circle → Bool
is_far circle = nat_lt (2 ^ 40) (max (nat_abs circle.centre.x) (nat_abs circle.centre.y))

-- the places before the last: none on a line, only b if the centre is far, else 63 on the circle
abbrev pub places_before : Spot → Option Circle → List Spot
places_before b None = []
places_before b (Some circle) =
    if is_far circle then b ∷ [] else map (place_at circle) (between circle.clockwise 6 circle.first circle.last)

-- the places that the pen reaches after a, in order
abbrev pub arc_places : Spot → Spot → Spot → List Spot
arc_places a b c = places_before b (circle_through a b c) ++ (c ∷ [])
