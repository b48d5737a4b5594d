-- What a turned stroke is made of.
use Rattle.std.proofs.Common.{◌≡◌, ◌≤◌, ◌∙◌, refl, true, ap, sym, subst, ℤ, pos, neg_ℤ, nat_abs, ◌≤ℤ◌, arith}
use Rattle.std.proofs.lemmas.Int.{ints, int_max_is, int_min_is}
use Rattle.std.proofs.lemmas.Bool.Decides.{nat_tests}
use Rattle.std.proofs.lemmas.Bool.{and_parts}
use Rattle.std.specs.Int.{int_min}
use Rattle.directions.specs.declared.turn.Turn.{Turn}
use Rattle.directions.specs.declared.turn.Turn.TheVariants.{None, Quarter, Half, ThreeQuarters}
use Rattle.exact.specs.declared.spot.Spot.{Spot}
use Rattle.labels.specs.Labels.{cut, place_of}
use Rattle.labels.specs.declared.place.Place.{Place}
use Rattle.plot_page.specs.declared.page.Page.{Page}
use Rattle.plot_page.specs.declared.window.Window.{Window}
use Rattle.plot_page.specs.Segments.{Segment}
use Rattle.plot_page.specs.Strokes.{IsStroke}
use Rattle.turning.specs.Turns.{has_corners, has_ends, is_corner_at, is_end_at, is_turnable}
use Rattle.turning.specs.Turns.{spot, turned_place, turned_segment, turned_window, window_between}

-- a number of a place is not cut
cut_is : (z : ℤ) → nat_abs z ≤ 134217712 → cut z ≡ z
cut_is z h = omega (arith, ints, int_max_is (neg_ℤ (pos 134217712)) (int_min (pos 134217712) z), int_min_is (pos 134217712) z)

-- a corner on the longest page
record IsCornerAt (p : Spot) : Type 0 where
  pub x_from : pos 0 ≤ℤ p.x
  pub y_from : pos 0 ≤ℤ p.y
  pub x_in : nat_abs p.x ≤ 8388608
  pub y_in : nat_abs p.y ≤ 8388608

-- an end of a stroke
record IsEndAt (p : Spot) : Type 0 where
  pub x_in : nat_abs p.x ≤ 134217712
  pub y_in : nat_abs p.y ≤ 134217712

corner_by : (p : Spot) → is_corner_at p ≡ true → IsCornerAt p
corner_by p h = record {
  x_from = grind (arith, ints, nat_tests);
  y_from = grind (arith, ints, nat_tests);
  x_in = grind (arith, ints, nat_tests);
  y_in = grind (arith, ints, nat_tests);
}

end_by : (p : Spot) → is_end_at p ≡ true → IsEndAt p
end_by p h = record { x_in = grind (arith, nat_tests); y_in = grind (arith, nat_tests) }

-- what can be turned, by its places
record IsTurnable (turn : Turn) (page : Page) (s : Segment) : Type 0 where
  pub low : IsCornerAt (turned_place turn page (spot s.window.x0 s.window.y0))
  pub high : IsCornerAt (turned_place turn page (spot s.window.x1 s.window.y1))
  pub first : IsEndAt (turned_place turn page (spot s.ax s.ay))
  pub last : IsEndAt (turned_place turn page (spot s.bx s.by))

turnable_by : (turn : Turn) (page : Page) (s : Segment) → is_turnable turn page s ≡ true → IsTurnable turn page s
turnable_by turn page s h =
    let p = and_parts (has_corners turn page s.window) (has_ends turn page s) h in
    let low = turned_place turn page (spot s.window.x0 s.window.y0) in
    let high = turned_place turn page (spot s.window.x1 s.window.y1) in
    let first = turned_place turn page (spot s.ax s.ay) in
    let last = turned_place turn page (spot s.bx s.by) in
    let k = and_parts (is_corner_at low) (is_corner_at high) p.0 in
    let e = and_parts (is_end_at first) (is_end_at last) p.1 in
    record { low = corner_by low k.0; high = corner_by high k.1; first = end_by first e.0; last = end_by last e.1 }

-- the places of a turned stroke, and its window
pub record AreTurned (turn : Turn) (page : Page) (s : Segment) (low high first last : Place) (w : Window) : Type 0 where
  pub low_is : low ≡ place_of (turned_place turn page (spot s.window.x0 s.window.y0))
  pub high_is : high ≡ place_of (turned_place turn page (spot s.window.x1 s.window.y1))
  pub first_is : first ≡ place_of (turned_place turn page (spot s.ax s.ay))
  pub last_is : last ≡ place_of (turned_place turn page (spot s.bx s.by))
  pub window_is : w ≡ window_between turn (spot low.x low.y) (spot high.x high.y)

-- the stroke that they make
abbrev pub made_of : Segment → Place → Place → Window → Segment
made_of s first last w =
    record { pen = s.pen; colour = s.colour; width = s.width; window = w; ax = first.x; ay = first.y; bx = last.x; by = last.y }

-- a place that is not cut
kept : (p : Spot) (q : Place) → q ≡ place_of p → nat_abs p.x ≤ 134217712 → nat_abs p.y ≤ 134217712 → spot q.x q.y ≡ p
kept p q is x y = let a = cut_is p.x x in let b = cut_is p.y y in rw (is, a, b) refl

pub made_is : (turn : Turn) (page : Page) (s : Segment) (low high first last : Place) (w : Window)
    → is_turnable turn page s ≡ true → AreTurned turn page s low high first last w
    → made_of s first last w ≡ turned_segment turn page s
made_is turn page s low high first last w h are =
    let t = turnable_by turn page s h in
    let l = kept (turned_place turn page (spot s.window.x0 s.window.y0)) low are.low_is (omega (arith, t.low.x_in)) (omega (arith, t.low.y_in)) in
    let k = kept (turned_place turn page (spot s.window.x1 s.window.y1)) high are.high_is (omega (arith, t.high.x_in)) (omega (arith, t.high.y_in)) in
    let a = kept (turned_place turn page (spot s.ax s.ay)) first are.first_is t.first.x_in t.first.y_in in
    let b = kept (turned_place turn page (spot s.bx s.by)) last are.last_is t.last.x_in t.last.y_in in
    let v : w ≡ turned_window turn page s.window =
    are.window_is
    ∙ ap (window_between turn (spot low.x low.y)) k
    ∙ ap (λ p. window_between turn p (turned_place turn page (spot s.window.x1 s.window.y1))) l in
    cc (v, ap (λ (p : Spot). p.x) a, ap (λ (p : Spot). p.y) a, ap (λ (p : Spot). p.x) b, ap (λ (p : Spot). p.y) b)

-- a window on the longest page
record IsWindowNear (w : Window) : Type 0 where
  pub low : IsCornerAt (spot w.x0 w.y0)
  pub high : IsCornerAt (spot w.x1 w.y1)

-- a corner of one place's x and another's y
mixed : (p q : Spot) → IsCornerAt p → IsCornerAt q → IsCornerAt (spot p.x q.y)
mixed p q a b = record { x_from = a.x_from; y_from = b.y_from; x_in = a.x_in; y_in = b.y_in }

window_near : (turn : Turn) (a b : Spot) → IsCornerAt a → IsCornerAt b → IsWindowNear (window_between turn a b)
window_near None a b p q = record { low = mixed a a p p; high = mixed b b q q }
window_near Quarter a b p q = record { low = mixed b a q p; high = mixed a b p q }
window_near Half a b p q = record { low = mixed b b q q; high = mixed a a p p }
window_near ThreeQuarters a b p q = record { low = mixed a b p q; high = mixed b a q p }

-- what can be turned is a stroke after the turn
pub stroke_turned : (turn : Turn) (page : Page) (s : Segment) → IsStroke s → is_turnable turn page s ≡ true
    → IsStroke (turned_segment turn page s)
stroke_turned turn page s i h =
    let t = turnable_by turn page s h in
    let w =
    window_near turn (turned_place turn page (spot s.window.x0 s.window.y0)) (turned_place turn page (spot s.window.x1 s.window.y1)) t.low t.high in
    record {
      pen = i.pen;
      width = i.width;
      x0 = w.low.x_in;
      y0 = w.low.y_in;
      x1 = w.high.x_in;
      y1 = w.high.y_in;
      x0_from = w.low.x_from;
      y0_from = w.low.y_from;
      x1_from = w.high.x_from;
      y1_from = w.high.y_from;
      ax = t.first.x_in;
      ay = t.first.y_in;
      bx = t.last.x_in;
      by = t.last.y_in;
    }

pub made : (turn : Turn) (page : Page) (s : Segment) (low high first last : Place) (w : Window)
    → IsStroke s → is_turnable turn page s ≡ true → AreTurned turn page s low high first last w
    → IsStroke (made_of s first last w)
made turn page s low high first last w i h are =
    subst IsStroke (sym (made_is turn page s low high first last w h are)) (stroke_turned turn page s i h)
