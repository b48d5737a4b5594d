-- What the test of a stroke's numbers tells of each.
use Rattle.std.proofs.Common.{rules, ◌≡◌, ◌≤◌, ℤ, pos, nat_abs, nat_le, int_le, Bool, true, false, ◌&&◌, ◌≤ℤ◌, arith, refl}
use Rattle.std.proofs.lemmas.Int.{ints}
use Rattle.std.proofs.lemmas.Bool.Decides.{nat_tests}
use Rattle.std.proofs.lemmas.Bool.{and_parts}
use Rattle.plot_page.specs.Segments.{Segment, is_end, is_far_end}
use Rattle.plot_page.specs.Strokes.{IsStroke, is_stroke, is_drawn_with, is_window, is_corner, is_on_page}
use Rattle.plot_page.specs.Strokes.{is_far_stroke, is_on_roll, is_roll_window}
use Rattle.plot_page.specs.declared.window.Window.{Window}

pub all_three : (a b c x : Bool) → a ≡ true → b ≡ true → c ≡ x → (a && (b && c)) ≡ x
all_three a b c x p q r = rw (p, q, r) refl

on_roll : (z : ℤ) → is_on_roll z ≡ true → (pos 0 ≤ℤ z) × (nat_abs z ≤ 8388608)
on_roll z h =
    let p = and_parts (int_le (pos 0) z) (int_le z (pos 8388608)) h in
    (omega (arith, ints), omega (arith, ints))

end_within : (x y : ℤ) → is_far_end x y ≡ true → (nat_abs x ≤ 134217712) × (nat_abs y ≤ 134217712)
end_within x y h =
    let p = and_parts (nat_le (nat_abs x) 134217712) (nat_le (nat_abs y) 134217712) h in
    (search rules, search rules)

pub stroke_bounds : (s : Segment) → is_far_stroke s ≡ true → IsStroke s
stroke_bounds s h =
    let a = and_parts (is_drawn_with s.pen s.width) _ h in
    let b = and_parts (is_roll_window s.window) _ a.1 in
    let e = and_parts (is_far_end s.ax s.ay) (is_far_end s.bx s.by) b.1 in
    let w = and_parts (nat_le 1 s.pen) (nat_le s.width 12800) a.0 in
    let k = and_parts (is_on_roll s.window.x0 && is_on_roll s.window.y0) (is_on_roll s.window.x1 && is_on_roll s.window.y1) b.0 in
    let k0 = and_parts (is_on_roll s.window.x0) (is_on_roll s.window.y0) k.0 in
    let k1 = and_parts (is_on_roll s.window.x1) (is_on_roll s.window.y1) k.1 in
    let x0 = on_roll s.window.x0 k0.0 in
    let y0 = on_roll s.window.y0 k0.1 in
    let x1 = on_roll s.window.x1 k1.0 in
    let y1 = on_roll s.window.y1 k1.1 in
    let ea = end_within s.ax s.ay e.0 in
    let eb = end_within s.bx s.by e.1 in
    record {
      pen = search rules;
      width = search rules;
      x0 = x0.1;
      y0 = y0.1;
      x1 = x1.1;
      y1 = y1.1;
      x0_from = x0.0;
      y0_from = y0.0;
      x1_from = x1.0;
      y1_from = y1.0;
      ax = ea.0;
      ay = ea.1;
      bx = eb.0;
      by = eb.1;
    }

and_false : (b : Bool) → (b && false) ≡ false
and_false true = refl
and_false false = refl

page_on_roll : (z : ℤ) → is_on_page z ≡ true → is_on_roll z ≡ true
page_on_roll z h =
    let p = and_parts (int_le (pos 0) z) (int_le z (pos 1048576)) h in
    let a : pos 0 ≤ℤ z = omega (arith, ints) in
    let b : z ≤ℤ pos 8388608 = omega (arith, ints) in
    grind (arith, ints)

near_is_far : (x y : ℤ) → is_end x y ≡ true → is_far_end x y ≡ true
near_is_far x y h =
    let p = and_parts (nat_le (nat_abs x) 1048576) (nat_le (nat_abs y) 1048576) h in
    let a : nat_le (nat_abs x) 134217712 ≡ true = grind (arith, nat_tests) in
    let b : nat_le (nat_abs y) 134217712 ≡ true = grind (arith, nat_tests) in
    rw (a, b) refl

window_on_roll : (w : Window) → is_window w ≡ true → is_roll_window w ≡ true
window_on_roll w h =
    let k = and_parts (is_corner w.x0 w.y0) (is_corner w.x1 w.y1) h in
    let k0 = and_parts (is_on_page w.x0) (is_on_page w.y0) k.0 in
    let k1 = and_parts (is_on_page w.x1) (is_on_page w.y1) k.1 in
    rw (page_on_roll w.x0 k0.0, page_on_roll w.y0 k0.1, page_on_roll w.x1 k1.0, page_on_roll w.y1 k1.1) refl

-- what has the window and the ends of a stroke of the profile core is one if it is a stroke
pub core_is_far : (s : Segment) → is_window s.window ≡ true → (is_end s.ax s.ay && is_end s.bx s.by) ≡ true
    → is_far_stroke s ≡ is_stroke s
core_is_far s h k =
    let e = and_parts (is_end s.ax s.ay) (is_end s.bx s.by) k in
    rw (window_on_roll s.window h, near_is_far s.ax s.ay e.0, near_is_far s.bx s.by e.1, h, e.0, e.1) refl

pub no_window : (s : Segment) → is_window s.window ≡ false → is_stroke s ≡ false
no_window s h = rw h (and_false (is_drawn_with s.pen s.width))

pub no_ends : (s : Segment) → is_window s.window ≡ true → (is_end s.ax s.ay && is_end s.bx s.by) ≡ false → is_stroke s ≡ false
no_ends s h k = rw (h, k) (and_false (is_drawn_with s.pen s.width))
