-- Nothing outside the box of closed polygons is inside the area.
use Rattle.std.proofs.Common.{◌≡◌, ℕ, ◌+◌, Bool, false, ◌&&◌, List, [], ◌∷◌, count_by, inl, inr, refl, sym, ap, ap₂, ◌∙◌, arith, ℤ, pos, ◌*ℤ◌, int_le, int_lt}
use Rattle.std.proofs.lemmas.Bool.{cases_Bool}
use Rattle.std.proofs.lemmas.Int.{ints}
use Rattle.std.proofs.lemmas.List.Elements.{All-head, All-tail}
use Rattle.std.specs.List.{All, flat_map}
use Rattle.plot_page.specs.Segments.{Segment}
use Rattle.polygons.specs.Climbs.{total}
use Rattle.polygons.specs.declared.lines.Rule.{Rule}
use Rattle.polygons.proofs.Tests.{le_from, le_not, lt_true, lt_false}
use Rattle.polygons.proofs.SolidLaws.{one, count_is, outside, total-append}
use Rattle.areas.specs.Inside.{rises_past, falls_past, is_inside_area}
use Rattle.areas.specs.Laws.{LeadsTo, IsRound, AreRound, IsRightOf, IsLeftOf, IsAbove, IsBelow, AreasStayInTheirBox}
use Rattle.areas.proofs.Passes.{begins_above, begins_below, ends_above, ends_below}
use Rattle.areas.proofs.Sides.{none_right, none_right_down, all_left, all_left_down}

-- edges of which none passes a test
none_of : {X : Type 0} (p : X → Bool) (P : X → Type 0) → ((x : X) → P x → p x ≡ false) → (xs : List X) → All P xs → total (λ x. one (p x)) xs ≡ 0
none_of p P never [] h = refl
none_of p P never (x ∷ xs) h =
    ap₂ (λ (m n : ℕ). m + n) (ap one (never x (All-head P x xs h))) (none_of p P never xs (All-tail P x xs h))

same_of : {X : Type 0} (p q : X → Bool) (P : X → Type 0) → ((x : X) → P x → p x ≡ q x) → (xs : List X) → All P xs
    → total (λ x. one (p x)) xs ≡ total (λ x. one (q x)) xs
same_of p q P same [] h = refl
same_of p q P same (x ∷ xs) h =
    ap₂ (λ (m n : ℕ). m + n) (ap one (same x (All-head P x xs h))) (same_of p q P same xs (All-tail P x xs h))

module _ (rule : Rule) (r : ℕ) (x y : ℤ) where
  abbrev up : Segment → Bool
  up e = rises_past r e x y

  abbrev down : Segment → Bool
  down e = falls_past r e x y

  balanced : (edges : List Segment) → total (λ e. one (up e)) edges ≡ total (λ e. one (down e)) edges → is_inside_area rule r edges x y ≡ false
  balanced edges h = outside rule (count_by up edges) (count_by down edges) (sym (count_is up edges) ∙ h ∙ count_is down edges)

  none : (P : Segment → Type 0) → ((e : Segment) → P e → up e ≡ false) → ((e : Segment) → P e → down e ≡ false)
      → (edges : List Segment) → All P edges → is_inside_area rule r edges x y ≡ false
  none P no_up no_down edges h = balanced edges (none_of up P no_up edges h ∙ sym (none_of down P no_down edges h))

turns : (a b v : ℤ) → one (int_le a v) + one (int_le b v && int_lt v a) ≡ one (int_le b v) + one (int_le a v && int_lt v b)
turns a b v =
    elim (cases_Bool (int_le a v)) [
      | inl p ↦ elim (cases_Bool (int_le b v)) [
        | inl q ↦ (let s = lt_false v a (le_from a v p) in let t = lt_false v b (le_from b v q) in rw (p, q, s, t) refl)
        | inr q ↦ (let t = lt_true v b (le_not b v q) in rw (p, q, t) refl)
      ]
      | inr p ↦ elim (cases_Bool (int_le b v)) [
        | inl q ↦ (let s = lt_true v a (le_not a v p) in rw (p, q, s) refl)
        | inr q ↦ rw (p, q) refl
      ]
    ]

module _ (r : ℕ) (y : ℤ) where
  -- a height is that of a place of an edge that leads upwards, or downwards
  abbrev level_up : Segment → Bool
  level_up e = int_le (pos r *ℤ e.ay) y && int_lt y (pos r *ℤ e.by)

  abbrev level_down : Segment → Bool
  level_down e = int_le (pos r *ℤ e.by) y && int_lt y (pos r *ℤ e.ay)

  abbrev ups : List Segment → ℕ
  ups edges = total (λ e. one (level_up e)) edges

  abbrev downs : List Segment → ℕ
  downs edges = total (λ e. one (level_down e)) edges

  abbrev reach : ℤ → ℕ
  reach v = one (int_le (pos r *ℤ v) y)

  path_turns : (a b : ℤ) (es : List Segment) (u v : ℤ) → LeadsTo a b es u v → reach b + downs es ≡ reach v + ups es
  path_turns a b [] u v h = ap (λ z. reach z + 0) h.1
  path_turns a b (e ∷ es) u v h =
      let here = turns (pos r *ℤ e.ay) (pos r *ℤ e.by) y in
      let more = path_turns e.bx e.by es u v h.2 in
      let f = ap reach h.1 in
      omega (arith, here, more, f)

  rounds_turn : (polygons : List (List Segment)) → All IsRound polygons
      → downs (flat_map (λ polygon. polygon) polygons) ≡ ups (flat_map (λ polygon. polygon) polygons)
  rounds_turn [] h = refl
  rounds_turn (p ∷ ps) h =
      let l = All-head IsRound p ps h in
      let here = path_turns l.x l.y p l.x l.y l.closed in
      let more = rounds_turn ps (All-tail IsRound p ps h) in
      let a = total-append (λ e. one (level_down e)) p (flat_map (λ polygon. polygon) ps) in
      let b = total-append (λ e. one (level_up e)) p (flat_map (λ polygon. polygon) ps) in
      omega (arith, here, more, a, b)

  turned_as_often : (edges : List Segment) → AreRound edges → downs edges ≡ ups edges
  turned_as_often edges h = rw h.is (rounds_turn h.polygons h.each)

right_of_all : (rule : Rule) (r : ℕ) (edges : List Segment) (x y : ℤ) → AreRound edges → All (IsLeftOf r x) edges → is_inside_area rule r edges x y ≡ false
right_of_all rule r edges x y h left =
    balanced rule r x y edges (
    same_of (λ e. rises_past r e x y) (level_up r y) (IsLeftOf r x) (all_left r x y) edges left
    ∙ sym (turned_as_often r y edges h)
    ∙ sym (same_of (λ e. falls_past r e x y) (level_down r y) (IsLeftOf r x) (all_left_down r x y) edges left)
    )

below_up : (r : ℕ) (x y : ℤ) (e : Segment) → IsBelow r y e → rises_past r e x y ≡ false
below_up r x y e h = ends_below r y e x (omega (arith, ints, h.1))

below_down : (r : ℕ) (x y : ℤ) (e : Segment) → IsBelow r y e → falls_past r e x y ≡ false
below_down r x y e h = begins_below r y e x (omega (arith, ints, h.0))

pub areas_stay_in_their_box_lem : AreasStayInTheirBox
areas_stay_in_their_box_lem = record {
  left = λ rule r edges x y h. none rule r x y (IsRightOf r x) (none_right r x y) (none_right_down r x y) edges h;
  right = right_of_all;
  below = λ rule r edges x y h. none rule r x y (IsAbove r y) (λ e h. begins_above r y e x h.0) (λ e h. ends_above r y e x h.1) edges h;
  above = λ rule r edges x y h. none rule r x y (IsBelow r y) (below_up r x y) (below_down r x y) edges h;
}
