-- What turns keep: that windows are empty, and that strokes are strokes.
use Rattle.std.proofs.Common.{◌≡◌, ◌∙◌, ◌≤◌, ◌*◌, ℕ, Bool, true, false, ◌||◌, ◌&&◌}
use Rattle.std.proofs.Common.{ℤ, ◌-ℤ◌, pos, nat_abs, int_lt, ◌≤ℤ◌, nat_le, refl, ap, arith}
use Rattle.std.proofs.lemmas.Int.{ints}
use Rattle.std.proofs.lemmas.Bool.{and_parts}
use Rattle.std.proofs.lemmas.Bool.Decides.{nat_tests}
use Rattle.directions.specs.declared.turn.Turn.{Turn}
use Rattle.directions.specs.declared.turn.Turn.TheVariants.{None, Quarter, Half, ThreeQuarters}
use Rattle.exact.specs.declared.spot.Spot.{Spot}
use Rattle.plot_page.specs.declared.page.Page.{Page}
use Rattle.plot_page.specs.declared.window.Window.{Window}
use Rattle.plot_page.specs.Segments.{Segment}
use Rattle.plot_page.specs.Strokes.{is_drawn_with, is_far_stroke, is_on_roll, is_roll_window}
use Rattle.turning.specs.Laws.{EmptyWindowsStayEmpty, LiesOn, LiesWhollyOn, TurnableAreStrokes}
use Rattle.turning.specs.Turns.{has_corners, has_ends, is_corner_at, is_end_at, is_turnable}
use Rattle.turning.specs.Turns.{spot, turned_page, turned_place, turned_segment, turned_window}

or_swap : (a b : Bool) → (a || b) ≡ (b || a)
or_swap true true = refl
or_swap true _ = refl
or_swap _ true = refl
or_swap _ _ = refl

flipped : (h a b : ℤ) → int_lt (h -ℤ a) (h -ℤ b) ≡ int_lt b a
flipped h a b = grind (arith, ints)

pub empty_windows : EmptyWindowsStayEmpty
empty_windows None page w = refl
empty_windows Quarter page w =
    simp flipped (or_swap (int_lt w.y1 w.y0) (int_lt w.x1 w.x0))
empty_windows Half page w = simp flipped refl
empty_windows ThreeQuarters page w =
    simp flipped (or_swap (int_lt w.y1 w.y0) (int_lt w.x1 w.x0))

-- the order of four tests does not matter
across : (a b c d : Bool) → ((c && b) && (a && d)) ≡ ((a && b) && (c && d))
across true true true d = refl
across true true false d = refl
across true false true d = refl
across true false false d = refl
across false true true d = refl
across false false true d = refl
across false b false d = refl

swapped : (a b : Bool) → (b && a) ≡ (a && b)
swapped true true = refl
swapped true false = refl
swapped false true = refl
swapped false false = refl

windows_are : (turn : Turn) (page : Page) (w : Window) → is_roll_window (turned_window turn page w) ≡ has_corners turn page w
windows_are None page w = refl
windows_are Quarter page w =
    across (is_on_roll (pos (16 * page.height) -ℤ w.y0)) (is_on_roll w.x0) (is_on_roll (pos (16 * page.height) -ℤ w.y1)) (is_on_roll w.x1)
windows_are Half page w =
    let a = is_corner_at (turned_place Half page (spot w.x0 w.y0)) in
    let b = is_corner_at (turned_place Half page (spot w.x1 w.y1)) in
    swapped a b
windows_are ThreeQuarters page w =
    let a = is_on_roll w.y0 in
    let b = is_on_roll (pos (16 * page.width) -ℤ w.x0) in
    let c = is_on_roll w.y1 in
    let d = is_on_roll (pos (16 * page.width) -ℤ w.x1) in
    swapped (c && b) (a && d) ∙ across a b c d

drawn : (p w e k : Bool) → (p && (w && e)) ≡ true → p ≡ true
drawn true w e k h = refl
drawn false w e k h = h

strokes_are : (turn : Turn) (page : Page) (s : Segment) → is_far_stroke s ≡ true
    → is_far_stroke (turned_segment turn page s) ≡ is_turnable turn page s
strokes_are turn page s h =
    let d = (and_parts (is_drawn_with s.pen s.width) _ h).0 in
    ap (λ (b : Bool). b && (is_roll_window (turned_window turn page s.window) && has_ends turn page s)) d
    ∙ ap (λ (b : Bool). b && has_ends turn page s) (windows_are turn page s.window)

-- a place on a page lies on the page after the turn
lies_on : (turn : Turn) (page : Page) (x y : ℤ) → LiesOn page x y
    → LiesOn (turned_page turn page) (turned_place turn page (spot x y)).x (turned_place turn page (spot x y)).y
lies_on None page x y on = on
lies_on Quarter page x y on =
    record { left = omega (arith, ints, on.above); below = on.left; right = omega (arith, ints, on.below); above = on.right }
lies_on Half page x y on =
    record {
      left = omega (arith, ints, on.right);
      below = omega (arith, ints, on.above);
      right = omega (arith, ints, on.left);
      above = omega (arith, ints, on.below);
    }
lies_on ThreeQuarters page x y on =
    record { left = on.below; below = omega (arith, ints, on.right); right = on.above; above = omega (arith, ints, on.left) }

-- a number from 0 up to the length of a side
on_side : (z : ℤ) (side : ℕ) → side ≤ 524288 → pos 0 ≤ℤ z → z ≤ℤ pos (16 * side) → is_on_roll z ≡ true
on_side z side most from to =
    let h : z ≤ℤ pos 8388608 = omega (arith, ints) in
    grind (arith, ints)

in_range : (z : ℤ) (side : ℕ) → side ≤ 524288 → pos 0 ≤ℤ z → z ≤ℤ pos (16 * side) → nat_le (nat_abs z) 134217712 ≡ true
in_range z side most from to =
    let h : nat_abs z ≤ 134217712 = omega (arith, ints) in
    grind (arith, nat_tests)

corner_on : (page : Page) (p : Spot) → LiesOn page p.x p.y → is_corner_at p ≡ true
corner_on page p on =
    rw (on_side p.x page.width page.width_in.1 on.left on.right, on_side p.y page.height page.height_in.1 on.below on.above) refl

end_on : (page : Page) (p : Spot) → LiesOn page p.x p.y → is_end_at p ≡ true
end_on page p on =
    rw (in_range p.x page.width page.width_in.1 on.left on.right, in_range p.y page.height page.height_in.1 on.below on.above) refl

all_four : (a b c d : Bool) → a ≡ true → b ≡ true → c ≡ true → d ≡ true → ((a && b) && (c && d)) ≡ true
all_four a b c d p q r s = rw (p, q, r, s) refl

pages_are : (turn : Turn) (page : Page) (s : Segment) → LiesWhollyOn page s → is_turnable turn page s ≡ true
pages_are turn page s on =
    let after = turned_page turn page in
    let w = s.window in
    all_four _ _ _ _
    (corner_on after (turned_place turn page (spot w.x0 w.y0)) (lies_on turn page w.x0 w.y0 on.low))
    (corner_on after (turned_place turn page (spot w.x1 w.y1)) (lies_on turn page w.x1 w.y1 on.high))
    (end_on after (turned_place turn page (spot s.ax s.ay)) (lies_on turn page s.ax s.ay on.first))
    (end_on after (turned_place turn page (spot s.bx s.by)) (lies_on turn page s.bx s.by on.last))

pub turnable : TurnableAreStrokes
turnable = record { strokes = strokes_are; on_page = pages_are }
