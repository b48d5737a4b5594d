-- What is inside a rectangle is between its sides.
use Rattle.std.proofs.Common.{◌≡◌, ℕ, suc, ◌+◌, Bool, true, false, not, ◌&&◌, count_by, inl, inr, refl, sym, ap, ap₂, ◌∙◌, arith, ℤ, pos, ◌-ℤ◌, ◌*ℤ◌, ◌≤ℤ◌, ◌<ℤ◌, int_le, int_lt}
use Rattle.std.proofs.lemmas.Bool.{cases_Bool}
use Rattle.std.proofs.lemmas.Int.{ints}
use Rattle.exact.proofs.Ring.{mul_comm_z}
use Rattle.exact.proofs.Rounding.{le_scale, le_unscale}
use Rattle.plot_page.specs.Segments.{Segment}
use Rattle.polygons.specs.Fills.{is_inside}
use Rattle.polygons.specs.declared.lines.Rule.{Rule}
use Rattle.polygons.specs.declared.lines.Rule.TheVariants.{OddCounts, Winding}
use Rattle.polygons.proofs.Tests.{le_true, le_from, le_not, lt_true, lt_false, same_test}
use Rattle.polygons.proofs.SolidLaws.{one, count_is}
use Rattle.areas.specs.Inside.{rises_past, falls_past}
use Rattle.areas.specs.Laws.{edge_between, rectangle, RectanglesAreBetweenSides}
use Rattle.areas.proofs.Sides.{above_zero}
use Rattle.areas.proofs.Turns.{rises_turned}

-- a place is not left of an upright side that leads upwards
upright : (r : ℕ) (a low high x y : ℤ) → low <ℤ high
    → int_le ((a -ℤ a) *ℤ (y -ℤ pos r *ℤ low)) ((x -ℤ pos r *ℤ a) *ℤ (high -ℤ low)) ≡ int_le (pos r *ℤ a) x
upright r a low high x y h =
    let k = above_zero (high -ℤ low) (omega (arith, ints, h)) in
    let none : a -ℤ a ≡ pos 0 = omega (arith, ints) in
    let nothing : pos 0 *ℤ (y -ℤ pos r *ℤ low) ≡ pos 0 = omega (arith, ints) in
    let z = x -ℤ pos r *ℤ a in
    let c = mul_comm_z z (pos (suc k.0)) in
    let o : pos (suc k.0) *ℤ pos 0 ≡ pos 0 = omega (arith, ints) in
    rw (none, nothing, k.1) (same_test (int_le (pos 0) (z *ℤ pos (suc k.0))) (int_le (pos r *ℤ a) x)
    (λ e.
    let l = le_from (pos 0) (z *ℤ pos (suc k.0)) e in
    let m = le_unscale (suc k.0) (pos 0) z (omega arith) (omega (arith, ints, l, c, o)) in
    le_true (pos r *ℤ a) x (omega (arith, ints, m)))
    (λ e.
    let l = le_from (pos r *ℤ a) x e in
    let m = le_scale (suc k.0) (pos 0) z (omega (arith, ints, l)) in
    le_true (pos 0) (z *ℤ pos (suc k.0)) (omega (arith, ints, m, c, o))))

-- all but one of four tests fail
sum_of_four : (a b c d : Bool) → a ≡ false → c ≡ false → d ≡ false → one a + (one b + (one c + (one d + 0))) ≡ one b
sum_of_four a b c d e f g = rw (e, f, g) (omega arith)

last_of_four : (a b c d : Bool) → a ≡ false → b ≡ false → c ≡ false → one a + (one b + (one c + (one d + 0))) ≡ one d
last_of_four a b c d e f g = rw (e, f, g) (omega arith)

-- no height is from a on and below b, if b is not above a
no_height : (a b v : ℤ) → b ≤ℤ a → (int_le a v && int_lt v b) ≡ false
no_height a b v h =
    elim (cases_Bool (int_le a v)) [
      | inl e ↦ (let f = lt_false v b (omega (arith, ints, le_from a v e, h)) in rw (e, f) refl)
      | inr e ↦ rw e refl
    ]

not_level : (p q : Bool) → p ≡ false → (p && q) ≡ false
not_level p q e = rw e refl

module _ (r : ℕ) (s : Segment) (x y : ℤ) where
  no_rise : (ax ay bx by : ℤ) → (pos r *ℤ by) ≤ℤ (pos r *ℤ ay) → rises_past r (edge_between s ax ay bx by) x y ≡ false
  no_rise ax ay bx by h =
      not_level (int_le (pos r *ℤ ay) y && int_lt y (pos r *ℤ by)) (int_le ((bx -ℤ ax) *ℤ (y -ℤ pos r *ℤ ay)) ((x -ℤ pos r *ℤ ax) *ℤ (by -ℤ ay)))
      (no_height (pos r *ℤ ay) (pos r *ℤ by) y h)

  no_fall : (ax ay bx by : ℤ) → (pos r *ℤ ay) ≤ℤ (pos r *ℤ by) → falls_past r (edge_between s ax ay bx by) x y ≡ false
  no_fall ax ay bx by h = sym (rises_turned r (edge_between s ax ay bx by) x y) ∙ no_rise bx by ax ay h

  side_rises : (a low high : ℤ) → low <ℤ high
      → rises_past r (edge_between s a low a high) x y ≡ ((int_le (pos r *ℤ low) y && int_lt y (pos r *ℤ high)) && int_le (pos r *ℤ a) x)
  side_rises a low high h = ap (λ (b : Bool). (int_le (pos r *ℤ low) y && int_lt y (pos r *ℤ high)) && b) (upright r a low high x y h)

-- inside by one side that may be passed upwards and one that may be passed downwards
decided : (rule : Rule) (l a b : Bool) → (a ≡ true → b ≡ true) → is_inside rule (one (l && a)) (one (l && b)) ≡ ((b && not a) && l)
decided OddCounts true true true h = refl
decided OddCounts true false true h = refl
decided OddCounts true false false h = refl
decided OddCounts false true true h = refl
decided OddCounts false false true h = refl
decided OddCounts false false false h = refl
decided OddCounts l true false h = let e = h refl in cc
decided Winding true true true h = refl
decided Winding true false true h = refl
decided Winding true false false h = refl
decided Winding false true true h = refl
decided Winding false false true h = refl
decided Winding false false false h = refl
decided Winding l true false h = let e = h refl in cc

not_before : (a x : ℤ) → not (int_le a x) ≡ int_lt x a
not_before a x =
    elim (cases_Bool (int_le a x)) [
      | inl e ↦ (let f = lt_false x a (le_from a x e) in rw (e, f) refl)
      | inr e ↦ (let f = lt_true x a (le_not a x e) in rw (e, f) refl)
    ]

pub rectangles_are_between_sides_lem : RectanglesAreBetweenSides
rectangles_are_between_sides_lem rule r s x0 y0 x1 y1 x y across upwards =
    let up : Segment → Bool = λ e. rises_past r e x y in
    let down : Segment → Bool = λ e. falls_past r e x y in
    let edges = rectangle s x0 y0 x1 y1 in
    let low = pos r *ℤ y0 in
    let high = pos r *ℤ y1 in
    let left = pos r *ℤ x0 in
    let right = pos r *ℤ x1 in
    let l : Bool = int_le low y && int_lt y high in
    let heights = le_scale r y0 y1 (omega (arith, ints, upwards)) in
    let sides = le_scale r x0 x1 (omega (arith, ints, across)) in
    let u1 = no_rise r s x y x0 y0 x1 y0 (omega (arith, ints)) in
    let u2 = side_rises r s x y x1 y0 y1 upwards in
    let u3 = no_rise r s x y x1 y1 x0 y1 (omega (arith, ints)) in
    let u4 = no_rise r s x y x0 y1 x0 y0 heights in
    let d1 = no_fall r s x y x0 y0 x1 y0 (omega (arith, ints)) in
    let d2 = no_fall r s x y x1 y0 x1 y1 heights in
    let d3 = no_fall r s x y x1 y1 x0 y1 (omega (arith, ints)) in
    let d4 = sym (rises_turned r (edge_between s x0 y1 x0 y0) x y) ∙ side_rises r s x y x0 y0 y1 upwards in
    let ups : count_by up edges ≡ one (l && int_le right x) = sym (count_is up edges) ∙ sum_of_four (up (edge_between s x0 y0 x1 y0)) (up (edge_between s x1 y0 x1 y1)) (up (edge_between s x1 y1 x0 y1)) (up (edge_between s x0 y1 x0 y0)) u1 u3 u4 ∙ ap one u2 in
    let downs : count_by down edges ≡ one (l && int_le left x) = sym (count_is down edges) ∙ last_of_four (down (edge_between s x0 y0 x1 y0)) (down (edge_between s x1 y0 x1 y1)) (down (edge_between s x1 y1 x0 y1)) (down (edge_between s x0 y1 x0 y0)) d1 d2 d3 ∙ ap one d4 in
    ap₂ (is_inside rule) ups downs
    ∙ decided rule l (int_le right x) (int_le left x) (λ e. le_true left x (omega (arith, ints, le_from right x e, sides)))
    ∙ ap (λ (b : Bool). (int_le left x && b) && l) (not_before right x)
