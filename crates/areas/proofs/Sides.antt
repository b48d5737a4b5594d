-- A place that is left of both ends of an edge is not past it; one that is right of both ends, and level with it, is.
use Rattle.std.proofs.Common.{◌≡◌, ℕ, suc, Bool, true, false, ◌&&◌, refl, sym, ap, ◌∙◌, arith, ℤ, pos, neg_ℤ, nat_abs, ◌+ℤ◌, ◌-ℤ◌, ◌*ℤ◌, ◌≤ℤ◌, ◌<ℤ◌, int_le, int_lt}
use Rattle.std.proofs.lemmas.Int.{ints}
use Rattle.exact.proofs.Ring.{mul_assoc_z, mul_left_comm_z, mul-add_z, mul-sub_z, sub-mul_z, neg-mul_z}
use Rattle.exact.proofs.Rounding.{lt_unscale}
use Rattle.plot_page.specs.Segments.{Segment}
use Rattle.polygons.proofs.Tests.{le_true, le_false, le_from, lt_from}
use Rattle.areas.specs.Inside.{rises_past, falls_past}
use Rattle.areas.specs.Laws.{turned, IsRightOf, IsLeftOf}
use Rattle.areas.proofs.Turns.{rises_turned}

-- an edge that leads `run` to the right and `rise` up, in grains; a place `up` steps above its lower end and `down` below its
-- upper end, `near` left of the one and `far` left of the other
beside : (r up down near far : ℕ) (run rise : ℤ) → pos r *ℤ run ≡ pos far -ℤ pos (suc near) → pos r *ℤ rise ≡ pos up +ℤ pos (suc down)
    → (neg_ℤ (pos (suc near)) *ℤ rise) <ℤ (run *ℤ pos up)
beside r up down near far run rise d e =
    let z = run *ℤ pos up +ℤ pos (suc near) *ℤ rise in
    let a = mul-add_z (pos r) (run *ℤ pos up) (pos (suc near) *ℤ rise) in
    let b = mul_assoc_z (pos r) run (pos up) in
    let c = mul_left_comm_z (pos r) (pos (suc near)) rise in
    let f = ap (λ (q : ℤ). q *ℤ pos up) d in
    let g = sub-mul_z (pos far) (pos (suc near)) (pos up) in
    let i = ap (λ (q : ℤ). pos (suc near) *ℤ q) e in
    let j = mul-add_z (pos (suc near)) (pos up) (pos (suc down)) in
    let l : pos 0 <ℤ z = lt_unscale r (pos 0) z (omega (arith, ints, a, b, c, f, g, i, j)) in
    let n = neg-mul_z (pos (suc near)) rise in
    omega (arith, ints, l, n)

-- a number that is not below 0, and one above 0
natural : (z : ℤ) → pos 0 ≤ℤ z → (n : ℕ) × (z ≡ pos n)
natural z h = (nat_abs z, omega (arith, ints, h))

pub above_zero : (z : ℤ) → pos 0 <ℤ z → (n : ℕ) × (z ≡ pos (suc n))
above_zero z h = (nat_abs (z -ℤ pos 1), omega (arith, ints, h))

module _ (r : ℕ) (ax ay bx by x y : ℤ) (low : (pos r *ℤ ay) ≤ℤ y) (high : y <ℤ (pos r *ℤ by)) where
  not_past : x <ℤ (pos r *ℤ ax) → x <ℤ (pos r *ℤ bx) → int_le ((bx -ℤ ax) *ℤ (y -ℤ pos r *ℤ ay)) ((x -ℤ pos r *ℤ ax) *ℤ (by -ℤ ay)) ≡ false
  not_past left_of_a left_of_b =
      let up = natural (y -ℤ pos r *ℤ ay) (omega (arith, ints, low)) in
      let down = above_zero (pos r *ℤ by -ℤ y) (omega (arith, ints, high)) in
      let near = above_zero (pos r *ℤ ax -ℤ x) (omega (arith, ints, left_of_a)) in
      let far = above_zero (pos r *ℤ bx -ℤ x) (omega (arith, ints, left_of_b)) in
      let d = mul-sub_z (pos r) bx ax in
      let e = mul-sub_z (pos r) by ay in
      let n : x -ℤ pos r *ℤ ax ≡ neg_ℤ (pos (suc near.0)) = omega (arith, ints, near.1) in
      let b = beside r up.0 down.0 near.0 (suc far.0) (bx -ℤ ax) (by -ℤ ay) (omega (arith, ints, d, near.1, far.1)) (omega (arith, ints, e, up.1, down.1)) in
      rw (up.1, n) (le_false ((bx -ℤ ax) *ℤ pos up.0) (neg_ℤ (pos (suc near.0)) *ℤ (by -ℤ ay)) b)

  past : (pos r *ℤ ax) <ℤ x → (pos r *ℤ bx) <ℤ x → int_le ((bx -ℤ ax) *ℤ (y -ℤ pos r *ℤ ay)) ((x -ℤ pos r *ℤ ax) *ℤ (by -ℤ ay)) ≡ true
  past right_of_a right_of_b =
      let up = natural (y -ℤ pos r *ℤ ay) (omega (arith, ints, low)) in
      let down = above_zero (pos r *ℤ by -ℤ y) (omega (arith, ints, high)) in
      let near = above_zero (x -ℤ pos r *ℤ ax) (omega (arith, ints, right_of_a)) in
      let far = above_zero (x -ℤ pos r *ℤ bx) (omega (arith, ints, right_of_b)) in
      let d = mul-sub_z (pos r) ax bx in
      let e = mul-sub_z (pos r) by ay in
      let b = beside r up.0 down.0 near.0 (suc far.0) (ax -ℤ bx) (by -ℤ ay) (omega (arith, ints, d, near.1, far.1)) (omega (arith, ints, e, up.1, down.1)) in
      let n = neg-mul_z (pos (suc near.0)) (by -ℤ ay) in
      let m = neg-mul_z (bx -ℤ ax) (pos up.0) in
      let f : neg_ℤ (bx -ℤ ax) ≡ ax -ℤ bx = omega (arith, ints) in
      let k = rw f at m in
      rw (up.1, near.1) (le_true ((bx -ℤ ax) *ℤ pos up.0) (pos (suc near.0) *ℤ (by -ℤ ay)) (omega (arith, ints, b, n, k)))

-- a test that another one precedes
guarded : (p q : Bool) → (p ≡ true → q ≡ false) → (p && q) ≡ false
guarded true q h = h refl
guarded false q h = refl

granted : (p q : Bool) → (p ≡ true → q ≡ true) → (p && q) ≡ p
granted true q h = h refl
granted false q h = refl

both : (p q : Bool) → (p && q) ≡ true → (p ≡ true) × (q ≡ true)
both true true h = (refl, refl)
both true false h = absurd (cc)
both false q h = absurd (cc)

level : (a b v : ℤ) → (int_le a v && int_lt v b) ≡ true → (a ≤ℤ v) × (v <ℤ b)
level a b v h = let t = both (int_le a v) (int_lt v b) h in (le_from a v t.0, lt_from v b t.1)

pub none_right : (r : ℕ) (x y : ℤ) (e : Segment) → IsRightOf r x e → rises_past r e x y ≡ false
none_right r x y e h =
    guarded (int_le (pos r *ℤ e.ay) y && int_lt y (pos r *ℤ e.by)) (int_le ((e.bx -ℤ e.ax) *ℤ (y -ℤ pos r *ℤ e.ay)) ((x -ℤ pos r *ℤ e.ax) *ℤ (e.by -ℤ e.ay)))
    (λ t. let l = level (pos r *ℤ e.ay) (pos r *ℤ e.by) y t in not_past r e.ax e.ay e.bx e.by x y l.0 l.1 h.0 h.1)

pub all_left : (r : ℕ) (x y : ℤ) (e : Segment) → IsLeftOf r x e → rises_past r e x y ≡ (int_le (pos r *ℤ e.ay) y && int_lt y (pos r *ℤ e.by))
all_left r x y e h =
    granted (int_le (pos r *ℤ e.ay) y && int_lt y (pos r *ℤ e.by)) (int_le ((e.bx -ℤ e.ax) *ℤ (y -ℤ pos r *ℤ e.ay)) ((x -ℤ pos r *ℤ e.ax) *ℤ (e.by -ℤ e.ay)))
    (λ t. let l = level (pos r *ℤ e.ay) (pos r *ℤ e.by) y t in past r e.ax e.ay e.bx e.by x y l.0 l.1 h.0 h.1)

pub none_right_down : (r : ℕ) (x y : ℤ) (e : Segment) → IsRightOf r x e → falls_past r e x y ≡ false
none_right_down r x y e h = sym (rises_turned r e x y) ∙ none_right r x y (turned e) (h.1, h.0)

pub all_left_down : (r : ℕ) (x y : ℤ) (e : Segment) → IsLeftOf r x e → falls_past r e x y ≡ (int_le (pos r *ℤ e.by) y && int_lt y (pos r *ℤ e.ay))
all_left_down r x y e h = sym (rises_turned r e x y) ∙ all_left r x y (turned e) (h.1, h.0)
