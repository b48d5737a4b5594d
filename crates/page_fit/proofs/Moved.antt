-- What a moved stroke and its window are made of.
use Rattle.std.proofs.Common.{◌≡◌, ◌≤◌, ◌*◌, ◌&&◌, refl, true, false, ℤ, pos, ◌≤ℤ◌, nat_abs, int_lt, arith}
use Rattle.std.proofs.lemmas.Int.{ints}
use Rattle.std.proofs.lemmas.Bool.Decides.{nat_tests}
use Rattle.std.specs.Int.{int_min, int_max}
use Rattle.plot_page.specs.Segments.{Segment, is_far_end}
use Rattle.plot_page.specs.Strokes.{IsStroke}
use Rattle.plot_page.specs.declared.page.Page.{Page}
use Rattle.plot_page.specs.declared.stroke.TheConstants.{FARTHEST_END}
use Rattle.plot_page.specs.declared.window.Window.{Window}
use Rattle.page_fit.specs.Moves.{IsOnPage, window_on}

pub window_by : (page : Page) (w : Window) (x0 y0 x1 y1 : ℤ)
    → x0 ≡ int_max w.x0 (pos 0) → y0 ≡ int_max w.y0 (pos 0)
    → x1 ≡ int_min w.x1 (pos (16 * page.width)) → y1 ≡ int_min w.y1 (pos (16 * page.height))
    → int_lt x1 x0 ≡ false → int_lt y1 y0 ≡ false
    → record { x0 = x0; y0 = y0; x1 = x1; y1 = y1 } ≡ window_on page w
window_by page w x0 y0 x1 y1 e f g h s t =
    let s' = rw (e, g) at s in
    let t' = rw (f, h) at t in
    rw (e, f, g, h) (rw (s', t') refl)

pub window_sound : (x0 y0 x1 y1 : ℤ) → pos 0 ≤ℤ x0 → pos 0 ≤ℤ y0 → x1 ≤ℤ pos 8388608 → y1 ≤ℤ pos 8388608 → x0 ≤ℤ x1 → y0 ≤ℤ y1
    → IsOnPage (record { x0 = x0; y0 = y0; x1 = x1; y1 = y1 })
window_sound x0 y0 x1 y1 a b c d e f = record {
  x0_from = a;
  y0_from = b;
  x1_from = omega (arith, ints);
  y1_from = omega (arith, ints);
  x0_to = omega (arith, ints);
  y0_to = omega (arith, ints);
  x1_to = c;
  y1_to = d;
}

pub made : (s : Segment) (w : Window) (ax ay bx by : ℤ) → IsStroke s → IsOnPage w → nat_abs ax ≤ 134217712 → nat_abs ay ≤ 134217712 → nat_abs bx ≤ 134217712 → nat_abs by ≤ 134217712
    → IsStroke (record { pen = s.pen; colour = s.colour; width = s.width; window = w; ax = ax; ay = ay; bx = bx; by = by })
made s w ax ay bx by was i p q r t =
    let x0 = i.x0_from in
    let y0 = i.y0_from in
    let x1 = i.x1_from in
    let y1 = i.y1_from in
    let u0 = i.x0_to in
    let v0 = i.y0_to in
    let u1 = i.x1_to in
    let v1 = i.y1_to in
    record {
      pen = was.pen;
      width = was.width;
      x0 = omega (arith, ints);
      y0 = omega (arith, ints);
      x1 = omega (arith, ints);
      y1 = omega (arith, ints);
      x0_from = x0;
      y0_from = y0;
      x1_from = x1;
      y1_from = y1;
      ax = p;
      ay = q;
      bx = r;
      by = t;
    }

-- the four numbers of two places
pub four : (a b c d : ℤ) → (is_far_end a b && is_far_end c d) ≡ true
    → (nat_abs a ≤ FARTHEST_END) × (nat_abs b ≤ FARTHEST_END) × (nat_abs c ≤ FARTHEST_END) × (nat_abs d ≤ FARTHEST_END)
four a b c d h = grind (arith, nat_tests)
