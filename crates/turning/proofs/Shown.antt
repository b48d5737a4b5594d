-- What a page shows after a turn.
use Rattle.std.proofs.Common.{◌≡◌, ◌∙◌, ℕ, ◌+◌, ◌-◌, ◌<◌, List, [], ◌∷◌, map, inl, inr, ◌*◌, Bool}
use Rattle.std.proofs.Common.{true, false, ◌&&◌, ℤ, ◌-ℤ◌, ◌*ℤ◌, neg_ℤ, pos, int_le, if◌then◌else◌, refl, ap, sym, arith}
use Rattle.std.proofs.lemmas.Int.{ints}
use Rattle.directions.specs.declared.turn.Turn.{Turn}
use Rattle.directions.specs.declared.turn.Turn.TheVariants.{None, Quarter, Half, ThreeQuarters}
use Rattle.exact.proofs.Ring.{mul-neg_z, mul-sub_z, neg-mul_z}
use Rattle.plot_page.specs.declared.page.Page.{Page}
use Rattle.plot_page.specs.declared.window.Window.{Window}
use Rattle.plot_page.specs.Segments.{Segment}
use Rattle.stroke_raster.specs.Covers.{between, centre, covers, covers_place}
use Rattle.stroke_raster.specs.Covers.{drawn_width, first_end, in_window, is_gap_met, last_end}
use Rattle.stroke_raster.specs.Gap.{cross, dot, gap_met, scaled, way}
use Rattle.turning.specs.Pictures.{HasWholePixels, TurnedPagesShow, TurnedStrokesCover}
use Rattle.turning.specs.Pictures.{shown_place, turned_column, turned_point, turned_row}
use Rattle.stroke_raster.specs.Shown.{last_position, shown}
use Rattle.plot_page.specs.declared.dots.Dots.{Dots}
use Rattle.plot_page.specs.declared.pens.PenSet.{PenSet}
use Rattle.plot_page.specs.Pens.{has_pen}
use Rattle.std.proofs.lemmas.Bool.{cases_Bool}
use Rattle.stroke_raster.specs.declared.vector.Vector.{Vector}
use Rattle.turning.proofs.Grids.{grids}
use Rattle.turning.specs.Turns.{turned_if_selected, turned_page, turned_segment, turned_strokes, turned_window}

-- a side in grains, less a number, scaled
pub flipped : (r side : ℕ) (z : ℤ) → pos r *ℤ (pos (16 * side) -ℤ z) ≡ pos (16 * side * r) -ℤ pos r *ℤ z
flipped r side z =
    let whole : pos r *ℤ pos (16 * side) ≡ pos (16 * side * r) = omega (arith, ints) in
    mul-sub_z (pos r) (pos (16 * side)) z ∙ ap (λ (k : ℤ). k -ℤ pos r *ℤ z) whole

below_flipped : (k a z : ℤ) → int_le (k -ℤ a) (k -ℤ z) ≡ int_le z a
below_flipped k a z = grind (arith, ints)

and_swap : (a b : Bool) → (a && b) ≡ (b && a)
and_swap true true = refl
and_swap true false = refl
and_swap false true = refl
and_swap false false = refl

between_flipped : (k a b z : ℤ) → between (k -ℤ b) (k -ℤ a) (k -ℤ z) ≡ between a b z
between_flipped k a b z = rw (below_flipped k b z, below_flipped k z a) (and_swap (int_le z b) (int_le a z))

windows : (turn : Turn) (page : Page) (r : ℕ) (w : Window) (p : Vector)
    → in_window (turned_window turn page w) r (turned_point turn page r p) ≡ in_window w r p
windows None page r w p = refl
windows Quarter page r w p =
    let h = page.height in
    let k = pos (16 * h * r) in
    rw (flipped r h w.y0, flipped r h w.y1, between_flipped k (pos r *ℤ w.y0) (pos r *ℤ w.y1) p.y)
    (and_swap (between (pos r *ℤ w.y0) (pos r *ℤ w.y1) p.y) (between (pos r *ℤ w.x0) (pos r *ℤ w.x1) p.x))
windows Half page r w p =
    let h = page.height in
    let k = pos (16 * h * r) in
    let l = page.width in
    let m = pos (16 * l * r) in
    rw (
      flipped r h w.y0,
      flipped r h w.y1,
      between_flipped k (pos r *ℤ w.y0) (pos r *ℤ w.y1) p.y,
      flipped r l w.x0,
      flipped r l w.x1,
      between_flipped m (pos r *ℤ w.x0) (pos r *ℤ w.x1) p.x,
    ) refl
windows ThreeQuarters page r w p =
    let l = page.width in
    let m = pos (16 * l * r) in
    rw (flipped r l w.x0, flipped r l w.x1, between_flipped m (pos r *ℤ w.x0) (pos r *ℤ w.x1) p.x)
    (and_swap (between (pos r *ℤ w.y0) (pos r *ℤ w.y1) p.y) (between (pos r *ℤ w.x0) (pos r *ℤ w.x1) p.x))

-- a vector, turned
abbrev pub led : Turn → Vector → Vector
led None v = v
led Quarter v = record { x = neg_ℤ v.y; y = v.x }
led Half v = record { x = neg_ℤ v.x; y = neg_ℤ v.y }
led ThreeQuarters v = record { x = v.y; y = neg_ℤ v.x }

both_neg : (a b : ℤ) → neg_ℤ a *ℤ neg_ℤ b ≡ a *ℤ b
both_neg a b = let e = mul-neg_z (neg_ℤ a) b in let f = neg-mul_z a b in omega (arith, ints, e, f)

dot_led : (turn : Turn) (v w : Vector) → dot (led turn v) (led turn w) ≡ dot v w
dot_led None v w = refl
dot_led Quarter v w = let e = both_neg v.y w.y in omega (arith, ints, e)
dot_led Half v w = let e = both_neg v.y w.y in let f = both_neg v.x w.x in omega (arith, ints, e, f)
dot_led ThreeQuarters v w = let e = both_neg v.x w.x in omega (arith, ints, e)

cross_led : (turn : Turn) (v w : Vector) → cross (led turn v) (led turn w) ≡ cross v w
cross_led None v w = refl
cross_led Quarter v w = let e = neg-mul_z v.y w.x in let f = mul-neg_z v.x w.y in omega (arith, ints, e, f)
cross_led Half v w = let e = both_neg v.x w.y in let f = both_neg v.y w.x in omega (arith, ints, e, f)
cross_led ThreeQuarters v w = let e = neg-mul_z v.x w.y in let f = mul-neg_z v.y w.x in omega (arith, ints, e, f)

minus : (a b : ℤ) → neg_ℤ b -ℤ neg_ℤ a ≡ neg_ℤ (b -ℤ a)
minus a b = omega (arith, ints)

way_led : (turn : Turn) (v w : Vector) → way (led turn v) (led turn w) ≡ led turn (way v w)
way_led None v w = refl
way_led Quarter v w = rw (minus v.y w.y) refl
way_led Half v w = rw (minus v.y w.y, minus v.x w.x) refl
way_led ThreeQuarters v w = rw (minus v.x w.x) refl

-- the test of a gap by its products: of the segment's way with the point's, with itself and of the point's way with itself, of the
-- way from the segment's other end with itself, and across
abbrev gap_by : ℤ → ℤ → ℤ → ℤ → ℤ → ℕ → Bool
gap_by along whole first last height d =
    if int_le along (pos 0) then int_le (pos 4 *ℤ first) (pos (d * d)) else
    if int_le whole along then int_le (pos 4 *ℤ last) (pos (d * d)) else
    int_le (pos 4 *ℤ (height *ℤ height)) (pos (d * d) *ℤ whole)

gap_is : (v w : Vector) (d : ℕ) → gap_met v w d ≡ gap_by (dot v w) (dot v v) (dot w w) (dot (way v w) (way v w)) (cross v w) d
gap_is v w d = refl

last_led : (turn : Turn) (v w : Vector)
    → dot (way (led turn v) (led turn w)) (way (led turn v) (led turn w)) ≡ dot (way v w) (way v w)
last_led turn v w = ap (λ (u : Vector). dot u u) (way_led turn v w) ∙ dot_led turn (way v w) (way v w)

same_gap : (a a' b b' c c' e e' f f' : ℤ) (d : ℕ) → a ≡ a' → b ≡ b' → c ≡ c' → e ≡ e' → f ≡ f'
    → gap_by a b c e f d ≡ gap_by a' b' c' e' f' d
same_gap a a' b b' c c' e e' f f' d p q r s t = rw (p, q, r, s, t) refl

gap_led : (turn : Turn) (v w : Vector) (d : ℕ) → gap_met (led turn v) (led turn w) d ≡ gap_met v w d
gap_led turn v w d =
    let x = led turn v in
    let y = led turn w in
    gap_is x y d
    ∙ same_gap (dot x y) (dot v w) (dot x x) (dot v v) (dot y y) (dot w w) (dot (way x y) (way x y)) (dot (way v w) (way v w)) (cross x y) (cross v w) d
    (dot_led turn v w) (dot_led turn v v) (dot_led turn w w) (last_led turn v w) (cross_led turn v w)
    ∙ sym (gap_is v w d)

-- the way between two places that are turned
across : (k a b : ℤ) → (k -ℤ b) -ℤ (k -ℤ a) ≡ neg_ℤ (b -ℤ a)
across k a b = omega (arith, ints)

way_turned : (turn : Turn) (page : Page) (r : ℕ) (p q : Vector)
    → way (turned_point turn page r p) (turned_point turn page r q) ≡ led turn (way p q)
way_turned None page r p q = refl
way_turned Quarter page r p q = rw (across (pos (16 * page.height * r)) p.y q.y) refl
way_turned Half page r p q =
    rw (across (pos (16 * page.height * r)) p.y q.y, across (pos (16 * page.width * r)) p.x q.x) refl
way_turned ThreeQuarters page r p q = rw (across (pos (16 * page.width * r)) p.x q.x) refl

ends_turned : (turn : Turn) (page : Page) (r : ℕ) (s : Segment)
    → scaled (pos r) (first_end (turned_segment turn page s)) ≡ turned_point turn page r (scaled (pos r) (first_end s))
ends_turned None page r s = refl
ends_turned Quarter page r s = rw (flipped r page.height s.ay) refl
ends_turned Half page r s = rw (flipped r page.height s.ay, flipped r page.width s.ax) refl
ends_turned ThreeQuarters page r s = rw (flipped r page.width s.ax) refl

others_turned : (turn : Turn) (page : Page) (r : ℕ) (s : Segment)
    → scaled (pos r) (last_end (turned_segment turn page s)) ≡ turned_point turn page r (scaled (pos r) (last_end s))
others_turned None page r s = refl
others_turned Quarter page r s = rw (flipped r page.height s.by) refl
others_turned Half page r s = rw (flipped r page.height s.by, flipped r page.width s.bx) refl
others_turned ThreeQuarters page r s = rw (flipped r page.width s.bx) refl

-- the way between the ends of a stroke, and that from its first end to a place
abbrev pub along : ℕ → Segment → Vector
along r s = way (scaled (pos r) (first_end s)) (scaled (pos r) (last_end s))

abbrev pub aside : ℕ → Segment → Vector → Vector
aside r s p = way (scaled (pos r) (first_end s)) p

pub gaps_of : (d : ℕ) (turn : Turn) (page : Page) (r : ℕ) (s : Segment) (p : Vector)
    → gap_met (along r (turned_segment turn page s)) (aside r (turned_segment turn page s) (turned_point turn page r p)) d
    ≡ gap_met (along r s) (aside r s p) d
gaps_of d turn page r s p =
    let a = scaled (pos r) (first_end s) in
    let b = scaled (pos r) (last_end s) in
    let after = turned_segment turn page s in
    let q = turned_point turn page r p in
    let e = ends_turned turn page r s in
    let f = others_turned turn page r s in
    ap (λ (z : Vector). gap_met (way z (scaled (pos r) (last_end after))) (way z q) d) e
    ∙ ap (λ (z : Vector). gap_met (way (turned_point turn page r a) z) (way (turned_point turn page r a) q) d) f
    ∙ ap (λ (z : Vector). gap_met z (way (turned_point turn page r a) q) d) (way_turned turn page r a b)
    ∙ ap (λ (z : Vector). gap_met (led turn (way a b)) z d) (way_turned turn page r a p)
    ∙ gap_led turn (way a b) (way a p) d

gaps : (turn : Turn) (page : Page) (r : ℕ) (s : Segment) (p : Vector)
    → is_gap_met (turned_segment turn page s) r (turned_point turn page r p) ≡ is_gap_met s r p
gaps turn page r s p = gaps_of (drawn_width s.width r) turn page r s p

pub strokes_cover : TurnedStrokesCover
strokes_cover = record {
  windows = windows;
  gaps = gaps;
  covered = λ turn page r s p. rw (windows turn page r s.window p, gaps turn page r s p) refl;
}

-- the last position for which a test holds, of strokes that are changed, where the test follows the change
last_mapped : (f : Segment → Segment) (test after : Segment → Bool) → ((s : Segment) → after (f s) ≡ test s)
    → (strokes : List Segment)
    → last_position after (map f strokes) ≡ last_position test strokes
last_mapped f test after same [] = refl
last_mapped f test after same (s ∷ ss) = rw (last_mapped f test after same ss, same s) refl

pub selected : (pens : PenSet) (turn : Turn) (page : Page) (s : Segment) → has_pen pens s.pen ≡ true
    → turned_if_selected pens turn page s ≡ turned_segment turn page s
selected pens turn page s p = rw p refl

pub not_selected : (pens : PenSet) (turn : Turn) (page : Page) (s : Segment) → has_pen pens s.pen ≡ false
    → turned_if_selected pens turn page s ≡ s
not_selected pens turn page s p = rw p refl

pens_if : (pens : PenSet) (turn : Turn) (page : Page) (test after : Segment → Bool)
    → ((s : Segment) → after (turned_segment turn page s) ≡ test s) → (s : Segment)
    → (has_pen pens (turned_if_selected pens turn page s).pen && after (turned_if_selected pens turn page s)) ≡ (has_pen pens s.pen && test s)
pens_if pens turn page test after same s =
    elim (cases_Bool (has_pen pens s.pen)) [
      | inl p ↦ (
          ap (λ (t : Segment). has_pen pens t.pen && after t) (selected pens turn page s p)
          ∙ ap (λ (b : Bool). has_pen pens s.pen && b) (same s)
          )
      | inr p ↦ (
          ap (λ (t : Segment). has_pen pens t.pen && after t) (not_selected pens turn page s p)
          ∙ ap (λ (b : Bool). b && after s) p
          ∙ sym (ap (λ (b : Bool). b && test s) p)
          )
    ]

places : (turn : Turn) (page : Page) (r : ℕ) (pens : PenSet) (strokes : List Segment) (p : Vector)
    → shown_place pens r (turned_strokes pens turn page strokes) (turned_point turn page r p) ≡ shown_place pens r strokes p
places turn page r pens strokes p =
    last_mapped (turned_if_selected pens turn page) (λ s. has_pen pens s.pen && covers_place s r p)
    (λ s. has_pen pens s.pen && covers_place s r (turned_point turn page r p))
    (pens_if pens turn page (λ s. covers_place s r p) (λ s. covers_place s r (turned_point turn page r p)) (λ s. strokes_cover.covered turn page r s p))
    strokes

-- the centre of a pixel, from the other side
from_other_side : (side r n k : ℕ) → side * r ≡ 1016 * n → k < n
    → pos (16 * side * r) -ℤ pos ((2 * k + 1) * 8128) ≡ pos ((2 * (n - 1 - k) + 1) * 8128)
from_other_side side r n k whole within =
    let e : 16 * side * r ≡ 16256 * n = omega (arith, whole) in
    omega (arith, ints, e)

-- and back
from_this_side : (side r n k : ℕ) → side * r ≡ 1016 * n → k < n
    → pos ((2 * k + 1) * 8128) ≡ pos (16 * side * r) -ℤ pos ((2 * (n - 1 - k) + 1) * 8128)
from_this_side side r n k whole within =
    let e : 16 * side * r ≡ 16256 * n = omega (arith, whole) in
    omega (arith, ints, e)

twice : (a b : ℤ) → a -ℤ (a -ℤ b) ≡ b
twice a b = omega (arith, ints)

pub centres : (turn : Turn) (page : Page) (r rows columns row column : ℕ)
    → HasWholePixels page r rows columns → row < rows → column < columns
    → turned_point turn page r (centre page.height r row column)
    ≡ centre (turned_page turn page).height r (turned_row turn rows columns row column) (turned_column turn rows columns row column)
centres None page r rows columns row column whole below before = refl
centres Quarter page r rows columns row column whole below before =
    let e = twice (pos (16 * page.height * r)) (pos ((2 * row + 1) * 8128)) in
    let f = from_this_side page.width r columns column whole.width before in
    rw (e, f) refl
centres Half page r rows columns row column whole below before =
    let e = twice (pos (16 * page.height * r)) (pos ((2 * row + 1) * 8128)) in
    let f = from_other_side page.width r columns column whole.width before in
    let g = from_this_side page.height r rows row whole.height below in
    rw (e, f, g) refl
centres ThreeQuarters page r rows columns row column whole below before =
    let f = from_other_side page.height r rows row whole.height below in
    rw f refl

pixels : (turn : Turn) (page : Page) (dots : Dots) (rows columns row column : ℕ) (pens : PenSet) (strokes : List Segment)
    → HasWholePixels page dots.resolution rows columns → row < rows → column < columns
    → shown (λ s. covers s (turned_page turn page) dots) pens (turned_strokes pens turn page strokes)
    (turned_row turn rows columns row column) (turned_column turn rows columns row column)
    ≡ shown (λ s. covers s page dots) pens strokes row column
pixels turn page dots rows columns row column pens strokes whole below before =
    let r = dots.resolution in
    let c = centres turn page r rows columns row column whole below before in
    ap (λ (p : Vector). shown_place pens r (turned_strokes pens turn page strokes) p) (sym c)
    ∙ places turn page r pens strokes (centre page.height r row column)

pub pages_show : TurnedPagesShow
pages_show = record { places = places; grids = grids; centres = centres; pixels = pixels }
