-- What is inside of an area lies in the box of its edges.
use Rattle.std.proofs.Common.{◌≡◌, ℕ, ◌*◌, ◌<◌, Bool, true, false, ◌||◌, ℤ, pos, ◌*ℤ◌, ◌≤ℤ◌, ◌<ℤ◌, int_le, int_lt, List, [], ◌∷◌, All, inl, inr, refl, sym, subst, arith}
use Rattle.std.specs.Int.{int_max, int_min}
use Rattle.std.specs.Prelude.{if◌then◌else◌}
use Rattle.std.proofs.lemmas.Bool.{cases_Bool}
use Rattle.std.proofs.lemmas.Int.{int_max_is, int_min_is, ints}
use Rattle.std.proofs.lemmas.List.Elements.{All-cons, All-head, All-nil, All-tail}
use Rattle.exact.proofs.Rounding.{le_scale, le_unscale}
use Rattle.plot_page.specs.Segments.{Segment}
use Rattle.polygons.specs.declared.lines.Rule.{Rule}
use Rattle.polygons.proofs.Tests.{le_from, le_not, lt_false}
use Rattle.areas.specs.Inside.{is_inside_area}
use Rattle.areas.specs.Laws.{AreRound, IsAbove, IsBelow, IsLeftOf, IsRightOf}
use Rattle.areas.proofs.Boxes.{areas_stay_in_their_box_lem}
use Rattle.plot_page.specs.declared.window.Window.{Window}
use Rattle.page_fit.specs.Extents.{cut_to, holds_page, reach}
use Rattle.page_fit.specs.ShapeLaws.{FilledPlacesAreSeen, IsBetween}
use Rattle.page_fit.specs.Shapes.{across, diagonal}
use Rattle.page_fit.specs.declared.extent.Extent.{Extent}
use Rattle.page_fit.proofs.Beside.{neither}

-- the ends of an edge lie between four numbers
record LiesIn (x0 y0 x1 y1 : ℤ) (e : Segment) : Type 0 where
  ax_from : x0 ≤ℤ e.ax
  bx_from : x0 ≤ℤ e.bx
  ax_to : e.ax ≤ℤ x1
  bx_to : e.bx ≤ℤ x1
  ay_from : y0 ≤ℤ e.ay
  by_from : y0 ≤ℤ e.by
  ay_to : e.ay ≤ℤ y1
  by_to : e.by ≤ℤ y1

module _ (x0 y0 x1 y1 : ℤ) where
  -- if those of the diagonal of two edges do, those of both do
  in_first : (s t : Segment) → LiesIn x0 y0 x1 y1 (across s t) → LiesIn x0 y0 x1 y1 s
  in_first s t h = record {
    ax_from = omega (arith, ints, h.ax_from, int_min_is (int_min s.ax s.bx) (int_min t.ax t.bx), int_min_is s.ax s.bx);
    bx_from = omega (arith, ints, h.ax_from, int_min_is (int_min s.ax s.bx) (int_min t.ax t.bx), int_min_is s.ax s.bx);
    ax_to = omega (arith, ints, h.bx_to, int_max_is (int_max s.ax s.bx) (int_max t.ax t.bx), int_max_is s.ax s.bx);
    bx_to = omega (arith, ints, h.bx_to, int_max_is (int_max s.ax s.bx) (int_max t.ax t.bx), int_max_is s.ax s.bx);
    ay_from = omega (arith, ints, h.ay_from, int_min_is (int_min s.ay s.by) (int_min t.ay t.by), int_min_is s.ay s.by);
    by_from = omega (arith, ints, h.ay_from, int_min_is (int_min s.ay s.by) (int_min t.ay t.by), int_min_is s.ay s.by);
    ay_to = omega (arith, ints, h.by_to, int_max_is (int_max s.ay s.by) (int_max t.ay t.by), int_max_is s.ay s.by);
    by_to = omega (arith, ints, h.by_to, int_max_is (int_max s.ay s.by) (int_max t.ay t.by), int_max_is s.ay s.by);
  }

  in_second : (s t : Segment) → LiesIn x0 y0 x1 y1 (across s t) → LiesIn x0 y0 x1 y1 t
  in_second s t h = record {
    ax_from = omega (arith, ints, h.ax_from, int_min_is (int_min s.ax s.bx) (int_min t.ax t.bx), int_min_is t.ax t.bx);
    bx_from = omega (arith, ints, h.ax_from, int_min_is (int_min s.ax s.bx) (int_min t.ax t.bx), int_min_is t.ax t.bx);
    ax_to = omega (arith, ints, h.bx_to, int_max_is (int_max s.ax s.bx) (int_max t.ax t.bx), int_max_is t.ax t.bx);
    bx_to = omega (arith, ints, h.bx_to, int_max_is (int_max s.ax s.bx) (int_max t.ax t.bx), int_max_is t.ax t.bx);
    ay_from = omega (arith, ints, h.ay_from, int_min_is (int_min s.ay s.by) (int_min t.ay t.by), int_min_is t.ay t.by);
    by_from = omega (arith, ints, h.ay_from, int_min_is (int_min s.ay s.by) (int_min t.ay t.by), int_min_is t.ay t.by);
    ay_to = omega (arith, ints, h.by_to, int_max_is (int_max s.ay s.by) (int_max t.ay t.by), int_max_is t.ay t.by);
    by_to = omega (arith, ints, h.by_to, int_max_is (int_max s.ay s.by) (int_max t.ay t.by), int_max_is t.ay t.by);
  }

  all_in : (s : Segment) (more : List Segment) → LiesIn x0 y0 x1 y1 (diagonal s more) → All (LiesIn x0 y0 x1 y1) (s ∷ more)
  all_in s [] h = All-cons (LiesIn x0 y0 x1 y1) s [] h (All-nil (LiesIn x0 y0 x1 y1))
  all_in s (t ∷ more) h =
      let rest = all_in (across s t) more h in
      let first = All-head (LiesIn x0 y0 x1 y1) (across s t) more rest in
      let others = All-cons (LiesIn x0 y0 x1 y1) t more (in_second s t first) (All-tail (LiesIn x0 y0 x1 y1) (across s t) more rest) in
      All-cons (LiesIn x0 y0 x1 y1) s (t ∷ more) (in_first s t first) others

-- the box of the diagonal, without its width
module _ (s : Segment) (more : List Segment) where
  abbrev d : Segment
  d = diagonal s more

  in_box : LiesIn (int_min d.ax d.bx) (int_min d.ay d.by) (int_max d.ax d.bx) (int_max d.ay d.by) d
  in_box = record {
    ax_from = omega (arith, ints, int_min_is d.ax d.bx);
    bx_from = omega (arith, ints, int_min_is d.ax d.bx);
    ax_to = omega (arith, ints, int_max_is d.ax d.bx);
    bx_to = omega (arith, ints, int_max_is d.ax d.bx);
    ay_from = omega (arith, ints, int_min_is d.ay d.by);
    by_from = omega (arith, ints, int_min_is d.ay d.by);
    ay_to = omega (arith, ints, int_max_is d.ay d.by);
    by_to = omega (arith, ints, int_max_is d.ay d.by);
  }

  edges_in_box : All (LiesIn (int_min d.ax d.bx) (int_min d.ay d.by) (int_max d.ax d.bx) (int_max d.ay d.by)) (s ∷ more)
  edges_in_box = all_in (int_min d.ax d.bx) (int_min d.ay d.by) (int_max d.ax d.bx) (int_max d.ay d.by) s more in_box

each : {X : Type 0} (P Q : X → Type 0) → ((x : X) → P x → Q x) → (xs : List X) → All P xs → All Q xs
each P Q f [] h = All-nil Q
each P Q f (x ∷ xs) h = All-cons Q x xs (f x (All-head P x xs h)) (each P Q f xs (All-tail P x xs h))

module _ (r : ℕ) (x0 y0 x1 y1 x y : ℤ) (e : Segment) (h : LiesIn x0 y0 x1 y1 e) where
  right_of : x <ℤ (pos r *ℤ x0) → IsRightOf r x e
  right_of less = (omega (arith, ints, less, le_scale r x0 e.ax h.ax_from), omega (arith, ints, less, le_scale r x0 e.bx h.bx_from))

  left_of : (pos r *ℤ x1) <ℤ x → IsLeftOf r x e
  left_of more = (omega (arith, ints, more, le_scale r e.ax x1 h.ax_to), omega (arith, ints, more, le_scale r e.bx x1 h.bx_to))

  above : y <ℤ (pos r *ℤ y0) → IsAbove r y e
  above less = (omega (arith, ints, less, le_scale r y0 e.ay h.ay_from), omega (arith, ints, less, le_scale r y0 e.by h.by_from))

  below : (pos r *ℤ y1) <ℤ y → IsBelow r y e
  below more = (omega (arith, ints, more, le_scale r e.ay y1 h.ay_to), omega (arith, ints, more, le_scale r e.by y1 h.by_to))

clash : (b : Bool) → b ≡ true → b ≡ false → ⊥
clash b is not = absurd (cc)

-- a number is not below another one if that cannot be
not_below : (a b : ℤ) → (b <ℤ a → ⊥) → a ≤ℤ b
not_below a b never = elim (cases_Bool (int_le a b)) [
  | inl le ↦ le_from a b le
  | inr gt ↦ absurd (never (le_not a b gt))
]

module _ (rule : Rule) (r : ℕ) (s : Segment) (more : List Segment) (x y : ℤ) (round : AreRound (s ∷ more)) (inside : is_inside_area rule r (s ∷ more) x y ≡ true) where
  abbrev x0 : ℤ
  x0 = int_min (diagonal s more).ax (diagonal s more).bx

  abbrev y0 : ℤ
  y0 = int_min (diagonal s more).ay (diagonal s more).by

  abbrev x1 : ℤ
  x1 = int_max (diagonal s more).ax (diagonal s more).bx

  abbrev y1 : ℤ
  y1 = int_max (diagonal s more).ay (diagonal s more).by

  abbrev edges : List Segment
  edges = s ∷ more

  abbrev In : Segment → Type 0
  In = LiesIn x0 y0 x1 y1

  clashes : is_inside_area rule r edges x y ≡ false → ⊥
  clashes outside = clash (is_inside_area rule r edges x y) inside outside

  x_from : (pos r *ℤ x0) ≤ℤ x
  x_from = not_below (pos r *ℤ x0) x (λ less. clashes (areas_stay_in_their_box_lem.left rule r edges x y
      (each In (IsRightOf r x) (λ e h. right_of r x0 y0 x1 y1 x y e h less) edges (edges_in_box s more))))

  x_to : x ≤ℤ (pos r *ℤ x1)
  x_to = not_below x (pos r *ℤ x1) (λ less. clashes (areas_stay_in_their_box_lem.right rule r edges x y round
      (each In (IsLeftOf r x) (λ e h. left_of r x0 y0 x1 y1 x y e h less) edges (edges_in_box s more))))

  y_from : (pos r *ℤ y0) ≤ℤ y
  y_from = not_below (pos r *ℤ y0) y (λ less. clashes (areas_stay_in_their_box_lem.below rule r edges x y
      (each In (IsAbove r y) (λ e h. above r x0 y0 x1 y1 x y e h less) edges (edges_in_box s more))))

  y_to : y ≤ℤ (pos r *ℤ y1)
  y_to = not_below y (pos r *ℤ y1) (λ less. clashes (areas_stay_in_their_box_lem.above rule r edges x y
      (each In (IsBelow r y) (λ e h. below r x0 y0 x1 y1 x y e h less) edges (edges_in_box s more))))

  abbrev e : Extent
  e = reach (diagonal s more)

  x_reached : IsBetween r e.least_x e.greatest_x x
  x_reached =
      let a = le_scale r e.least_x x0 (omega (arith, ints)) in
      let b = le_scale r x1 e.greatest_x (omega (arith, ints)) in
      (omega (arith, ints, a, x_from), omega (arith, ints, b, x_to))

  y_reached : IsBetween r e.least_y e.greatest_y y
  y_reached =
      let a = le_scale r e.least_y y0 (omega (arith, ints)) in
      let b = le_scale r y1 e.greatest_y (omega (arith, ints)) in
      (omega (arith, ints, a, y_from), omega (arith, ints, b, y_to))

-- between two pairs of numbers, so between those nearer to one another
above_both : (r : ℕ) (a c v : ℤ) → (pos r *ℤ a) ≤ℤ v → (pos r *ℤ c) ≤ℤ v → (pos r *ℤ int_max a c) ≤ℤ v
above_both r a c v h k = elim (cases_Bool (int_le a c)) [
  | inl le ↦ (let same : int_max a c ≡ c = omega (arith, ints, le_from a c le, int_max_is a c) in rw same k)
  | inr gt ↦ (let same : int_max a c ≡ a = omega (arith, ints, le_not a c gt, int_max_is a c) in rw same h)
]

below_both : (r : ℕ) (b d v : ℤ) → v ≤ℤ (pos r *ℤ b) → v ≤ℤ (pos r *ℤ d) → v ≤ℤ (pos r *ℤ int_min b d)
below_both r b d v h k = elim (cases_Bool (int_le b d)) [
  | inl le ↦ (let same : int_min b d ≡ b = omega (arith, ints, le_from b d le, int_min_is b d) in rw same h)
  | inr gt ↦ (let same : int_min b d ≡ d = omega (arith, ints, le_not b d gt, int_min_is b d) in rw same k)
]

in_x_by : (b : Bool) (r : ℕ) (w : Window) (e : Extent) (x : ℤ) → IsBetween r e.least_x e.greatest_x x → IsBetween r w.x0 w.x1 x
    → IsBetween r (if b then e else cut_to w e).least_x (if b then e else cut_to w e).greatest_x x
in_x_by true r w e x h k = h
in_x_by false r w e x h k = (above_both r e.least_x w.x0 x h.0 k.0, below_both r e.greatest_x w.x1 x h.1 k.1)

in_y_by : (b : Bool) (r : ℕ) (w : Window) (e : Extent) (y : ℤ) → IsBetween r e.least_y e.greatest_y y → IsBetween r w.y0 w.y1 y
    → IsBetween r (if b then e else cut_to w e).least_y (if b then e else cut_to w e).greatest_y y
in_y_by true r w e y h k = h
in_y_by false r w e y h k = (above_both r e.least_y w.y0 y h.0 k.0, below_both r e.greatest_y w.y1 y h.1 k.1)

-- the diagonal has the window of the first edge
same_window : (s : Segment) (more : List Segment) → (diagonal s more).window ≡ s.window
same_window s [] = refl
same_window s (t ∷ more) = same_window (across s t) more

-- a side that some place reaches is not beside the page
not_beside : (r n : ℕ) (least greatest v : ℤ) → 0 < r → IsBetween r least greatest v → IsBetween r (pos 0) (pos n) v
    → (int_lt greatest (pos 0) || int_lt (pos n) least) ≡ false
not_beside r n least greatest v some h k =
    let low = lt_false greatest (pos 0) (le_unscale r (pos 0) greatest some (omega (arith, ints, h.1, k.0))) in
    let high = lt_false (pos n) least (le_unscale r least (pos n) some (omega (arith, ints, h.0, k.1))) in
    rw (low, high) refl

pub filled_places_are_seen : FilledPlacesAreSeen
filled_places_are_seen = record {
  in_x = λ page rule r s more x y round inside within.
      in_x_by (holds_page page (diagonal s more).window) r (diagonal s more).window (reach (diagonal s more)) x (x_reached rule r s more x y round inside)
      (subst (λ (w : Window). IsBetween r w.x0 w.x1 x) (sym (same_window s more)) within);
  in_y = λ page rule r s more x y round inside within.
      in_y_by (holds_page page (diagonal s more).window) r (diagonal s more).window (reach (diagonal s more)) y (y_reached rule r s more x y round inside)
      (subst (λ (w : Window). IsBetween r w.y0 w.y1 y) (sym (same_window s more)) within);
  on_page = λ page rule r s more x y round inside some in_x in_y.
      let e = reach (diagonal s more) in
      neither (int_lt e.greatest_x (pos 0)) (int_lt (pos (16 * page.width)) e.least_x) (int_lt e.greatest_y (pos 0)) (int_lt (pos (16 * page.height)) e.least_y)
      (not_beside r (16 * page.width) e.least_x e.greatest_x x some (x_reached rule r s more x y round inside) in_x)
      (not_beside r (16 * page.height) e.least_y e.greatest_y y some (y_reached rule r s more x y round inside) in_y);
}
