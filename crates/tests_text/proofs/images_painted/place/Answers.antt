use Rattle.std.proofs.Common.{rules, ◌≤◌, nat_abs, ◌≡◌, true, ◌≤ℤ◌, pos, arith, ℤ}
use mir.Syntax.{w32}
use mir.Val.{SFits}
use Rattle.std.proofs.lemmas.Int.{to_z-of_z}
use Rattle.std.proofs.lemmas.Bool.Decides.{nat_tests}
use Rattle.plot_page.specs.Segments.{Segment}
use Rattle.plot_page.specs.Strokes.{IsStroke, is_on_roll, is_roll_window}
use Rattle.plot_page.specs.contracts.stroke.Stroke.{the_view}
use Rattle.plot_page.specs.declared.window.Window.{Window}
use Rattle.tests_text.proofs.images_painted.place.Goals as goal

-- the corners of a window on the longest page
corners : (w : Window) → is_roll_window w ≡ true
    → (is_on_roll w.x0 ≡ true) × (is_on_roll w.y0 ≡ true) × (is_on_roll w.x1 ≡ true) × (is_on_roll w.y1 ≡ true)
corners w h = grind (arith, nat_tests)

least : (z : ℤ) → is_on_roll z ≡ true → pos 0 ≤ℤ z
least z h = grind (arith, nat_tests)

most : (z : ℤ) → is_on_roll z ≡ true → nat_abs z ≤ 8388608
most z h = grind (arith, nat_tests)

-- a stroke stays one with another window, and another place at which it begins
placed : (s : Segment) (w : Window) (ax ay : ℤ) → IsStroke s → is_roll_window w ≡ true → nat_abs ax ≤ 200000 → nat_abs ay ≤ 200000
    → IsStroke (record { pen = s.pen; colour = s.colour; width = s.width; window = w; ax = ax; ay = ay; bx = s.bx; by = s.by })
placed s w ax ay was h p q =
    let c = corners w h in
    record {
      pen = was.pen;
      width = was.width;
      x0 = most w.x0 c.0;
      y0 = most w.y0 c.1;
      x1 = most w.x1 c.2;
      y1 = most w.y1 c.3;
      x0_from = least w.x0 c.0;
      y0_from = least w.y0 c.1;
      x1_from = least w.x1 c.2;
      y1_from = least w.y1 c.3;
      ax = omega (arith, p);
      ay = omega (arith, q);
      bx = was.bx;
      by = was.by;
    }

pub invariant_of-image : goal.invariant_of-image
invariant_of-image c =
    let s : Segment = the_view c.frame.inside in
    let fx : SFits w32 c.turned-turn.result.1.x = search rules in
    let fy : SFits w32 c.turned-turn.result.1.y = search rules in
    let gx : SFits w32 s.bx = search rules in
    let gy : SFits w32 s.by = search rules in
    simp to_z-of_z (placed s c.args.window c.turned-turn.result.1.x c.turned-turn.result.1.y c.frame.invariant c.requires c.turned-turn.ensures.x c.turned-turn.ensures.y)
