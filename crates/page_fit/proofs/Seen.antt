-- What is seen of strokes lies on the page around them.
use Rattle.std.proofs.Common.{◌≡◌, ℕ, zero, suc, ◌+◌, ◌*◌, ◌/◌, Bool, true, false, not, ◌&&◌, ℤ, pos, negsuc, ◌+ℤ◌, ◌-ℤ◌, ◌*ℤ◌, ◌≤ℤ◌, ◌<ℤ◌, List, [], ◌∷◌, All, Option, Some, None, refl, ap, sym, subst, arith, fold, get_or}
use Rattle.std.specs.Prelude.{IfSome, if◌then◌else◌}
use Rattle.std.specs.Int.{int_div_euclid, int_max, int_min}
use Rattle.std.proofs.lemmas.Bool.{le-leb}
use Rattle.std.proofs.lemmas.Int.{int_max_is, int_min_is, ints}
use Rattle.std.proofs.lemmas.List.Elements.{All-cons}
use Rattle.plot_page.specs.Pages.{has_page_corner}
use Rattle.plot_page.specs.Pens.{has_pen}
use Rattle.plot_page.specs.Segments.{Segment}
use Rattle.plot_page.specs.declared.page.Page.{Page}
use Rattle.plot_page.specs.declared.pens.PenSet.{PenSet}
use Rattle.page_fit.specs.Around.{Sides, corner_around, is_side, length_for, side_at, sides_around, sides_of, units_for}
use Rattle.page_fit.specs.Extents.{extent_of, is_empty, joined, joined_with, seen, with_stroke}
use Rattle.page_fit.specs.Laws.{LieOnThePage, LiesOn, LiesTightlyOn, moved_extent}
use Rattle.page_fit.specs.Moves.{moved}
use Rattle.page_fit.specs.declared.extent.Extent.{Extent}

-- an extent holds another one
record Holds (e a : Extent) : Type 0 where
  left : e.least_x ≤ℤ a.least_x
  below : e.least_y ≤ℤ a.least_y
  right : a.greatest_x ≤ℤ e.greatest_x
  above : a.greatest_y ≤ℤ e.greatest_y

holds_first : (e a b : Extent) → Holds e (joined a b) → Holds e a
holds_first e a b h =
    let l : e.least_x ≤ℤ int_min a.least_x b.least_x = h.left in
    let d : e.least_y ≤ℤ int_min a.least_y b.least_y = h.below in
    let r : int_max a.greatest_x b.greatest_x ≤ℤ e.greatest_x = h.right in
    let u : int_max a.greatest_y b.greatest_y ≤ℤ e.greatest_y = h.above in
    record {
      left = omega (arith, ints, l, int_min_is a.least_x b.least_x);
      below = omega (arith, ints, d, int_min_is a.least_y b.least_y);
      right = omega (arith, ints, r, int_max_is a.greatest_x b.greatest_x);
      above = omega (arith, ints, u, int_max_is a.greatest_y b.greatest_y);
    }

holds_second : (e a b : Extent) → Holds e (joined a b) → Holds e b
holds_second e a b h =
    let l : e.least_x ≤ℤ int_min a.least_x b.least_x = h.left in
    let d : e.least_y ≤ℤ int_min a.least_y b.least_y = h.below in
    let r : int_max a.greatest_x b.greatest_x ≤ℤ e.greatest_x = h.right in
    let u : int_max a.greatest_y b.greatest_y ≤ℤ e.greatest_y = h.above in
    record {
      left = omega (arith, ints, l, int_min_is a.least_x b.least_x);
      below = omega (arith, ints, d, int_min_is a.least_y b.least_y);
      right = omega (arith, ints, r, int_max_is a.greatest_x b.greatest_x);
      above = omega (arith, ints, u, int_max_is a.greatest_y b.greatest_y);
    }

holds_itself : (e : Extent) → Holds e e
holds_itself e = record {
  left = omega (arith, ints);
  below = omega (arith, ints);
  right = omega (arith, ints);
  above = omega (arith, ints);
}

-- what holds an extent with a stroke holds the extent, and what is seen of the stroke
holds_both : (b : Bool) (found : Option Extent) (x e : Extent) → IfSome (if b then Some (joined_with found x) else found) (Holds e)
    → IfSome found (Holds e) × (b ≡ true → Holds e x)
holds_both true None x e h = (tt, λ _. h)
holds_both true (Some f) x e h = (holds_first e f x h, λ _. holds_second e f x h)
holds_both false found x e h = (h, λ is. absurd (cc))

none_left : (o : Option Extent) (e : Extent) → o ≡ Some e → IfSome o (Holds e)
none_left o e is = subst (λ (z : Option Extent). IfSome z (Holds e)) (sym is) (holds_itself e)

both : (a b : Bool) → a ≡ true → b ≡ false → (a && not b) ≡ true
both a b is so = rw (is, so) refl

module _ (pens : PenSet) (on : Page) where
  abbrev HoldsSeen : Extent → Segment → Type 0
  HoldsSeen e s = has_pen pens s.pen ≡ true → is_empty (seen on s) ≡ false → Holds e (seen on s)

  holds_seen : (strokes : List Segment) (found : Option Extent) (e : Extent) → fold (with_stroke pens on) found strokes ≡ Some e
      → IfSome found (Holds e) × All (HoldsSeen e) strokes
  holds_seen [] found e is = (none_left found e is, λ k d lt. absurd (omega (arith, lt)))
  holds_seen (s ∷ more) found e is =
      let later = holds_seen more (with_stroke pens on found s) e is in
      let here = holds_both (has_pen pens s.pen && not (is_empty (seen on s))) found (seen on s) e later.0 in
      (here.0, All-cons (HoldsSeen e) s more (λ pen some. here.1 (both (has_pen pens s.pen) (is_empty (seen on s)) pen some)) later.1)

-- a quotient by 16, rounded down
below_it : (z : ℤ) → (pos 16 *ℤ int_div_euclid z (pos 16)) ≤ℤ z
below_it (pos a) = omega (arith, ints)
below_it (negsuc a) = omega (arith, ints)

not_far_below : (z : ℤ) → z <ℤ (pos 16 *ℤ int_div_euclid z (pos 16) +ℤ pos 16)
not_far_below (pos a) = omega (arith, ints)
not_far_below (negsuc a) = omega (arith, ints)

units_of : (n : ℕ) → units_for (pos n) ≡ (n + 15) / 16
units_of zero = refl
units_of (suc n) = rw (le-leb 0 (suc n) (omega arith)) refl

-- whole units hold some grains, and not a unit more
hold_grains : (g : ℤ) → g ≤ℤ pos (16 * units_for g)
hold_grains (pos n) = let is : units_for (pos n) ≡ (n + 15) / 16 = units_of n in omega (arith, ints, is)
hold_grains (negsuc n) = let is : units_for (negsuc n) ≡ 0 = refl in omega (arith, ints, is)

hold_few : (g : ℤ) → pos (16 * units_for g) ≤ℤ int_max (pos 1024) (g +ℤ pos 15)
hold_few (pos n) = let is : units_for (pos n) ≡ (n + 15) / 16 = units_of n in omega (arith, ints, is, int_max_is (pos 1024) (pos n +ℤ pos 15))
hold_few (negsuc n) = let is : units_for (negsuc n) ≡ 0 = refl in omega (arith, ints, is, int_max_is (pos 1024) (negsuc n +ℤ pos 15))

-- along an axis, a drawing from least to greatest has the margin on the first side, and on the last one
module _ (margin : ℕ) (least greatest : ℤ) where
  first_side : (x : ℤ) → least ≤ℤ x → pos (640 * margin) ≤ℤ moved (side_at margin least) x
  first_side x from = let q = below_it (least -ℤ pos (640 * margin)) in omega (arith, ints)

  first_tight : moved (side_at margin least) least <ℤ (pos (640 * margin) +ℤ pos 16)
  first_tight = let q = not_far_below (least -ℤ pos (640 * margin)) in omega (arith, ints)

  last_side : (n : ℕ) (x : ℤ) → n ≡ length_for margin least greatest → x ≤ℤ greatest → (moved (side_at margin least) x +ℤ pos (640 * margin)) ≤ℤ pos (16 * n)
  last_side n x is to = let u = hold_grains (greatest +ℤ pos (640 * margin) -ℤ pos 16 *ℤ side_at margin least) in omega (arith, ints)

  last_tight : (n : ℕ) → n ≡ length_for margin least greatest
      → pos (16 * n) ≤ℤ int_max (pos 1024) (moved (side_at margin least) greatest +ℤ pos (640 * margin) +ℤ pos 15)
  last_tight n is =
      let side = side_at margin least in
      let g = greatest +ℤ pos (640 * margin) -ℤ pos 16 *ℤ side in
      let u = hold_few g in
      omega (arith, ints, u, int_max_is (pos 1024) (g +ℤ pos 15), int_max_is (pos 1024) (moved side greatest +ℤ pos (640 * margin) +ℤ pos 15))

checked_by : (b : Bool) (s t : Sides) → (if b then Some s else None) ≡ Some t → s ≡ t
checked_by true s t is = cc
checked_by false s t is = absurd (cc)

module _ (longest margin : ℕ) (around : Page) (e : Extent) (sides : sides_around longest margin e ≡ Some (sides_of around)) where
  abbrev asked : Sides
  asked = record { width = length_for margin e.least_x e.greatest_x; height = length_for margin e.least_y e.greatest_y; left = 0; below = 0 }

  are : asked ≡ sides_of around
  are = checked_by ((is_side longest asked.width && is_side longest asked.height) && has_page_corner 0 0) asked (sides_of around) sides

  wide : around.width ≡ length_for margin e.least_x e.greatest_x
  wide = sym (ap (λ (s : Sides). s.width) are)

  tall : around.height ≡ length_for margin e.least_y e.greatest_y
  tall = sym (ap (λ (s : Sides). s.height) are)

  lies_on : (a : Extent) → Holds e a → LiesOn margin around (moved_extent (corner_around margin e) a)
  lies_on a h = record {
    left = first_side margin e.least_x e.greatest_x a.least_x h.left;
    below = first_side margin e.least_y e.greatest_y a.least_y h.below;
    right = last_side margin e.least_x e.greatest_x around.width a.greatest_x wide h.right;
    above = last_side margin e.least_y e.greatest_y around.height a.greatest_y tall h.above;
  }

  lies_tightly_on : LiesTightlyOn margin around (moved_extent (corner_around margin e) e)
  lies_tightly_on = record {
    left = first_tight margin e.least_x e.greatest_x;
    below = first_tight margin e.least_y e.greatest_y;
    right = last_tight margin e.least_x e.greatest_x around.width wide;
    above = last_tight margin e.least_y e.greatest_y around.height tall;
  }

  all_lie_on : (pens : PenSet) (on : Page) (strokes : List Segment) → All (HoldsSeen pens on e) strokes
      → All (λ s. has_pen pens s.pen ≡ true → is_empty (seen on s) ≡ false → LiesOn margin around (moved_extent (corner_around margin e) (seen on s))) strokes
  all_lie_on pens on strokes h = λ k d lt. λ pen some. lies_on (seen on (get_or strokes k d)) (h k d lt pen some)

pub lie_on_the_page : (pens : PenSet) (longest margin : ℕ) (on around : Page) (strokes : List Segment) (e : Extent) → extent_of pens on strokes ≡ Some e
    → sides_around longest margin e ≡ Some (sides_of around) → LieOnThePage pens margin on around strokes e
lie_on_the_page pens longest margin on around strokes e is sides = record {
  seen = all_lie_on longest margin around e sides pens on strokes (holds_seen pens on strokes None e is).1;
  tight = lies_tightly_on longest margin around e sides;
}
