-- An edge from its other end: what it passed upwards it passes downwards.
use Rattle.std.proofs.Common.{◌≡◌, ℕ, Bool, ap, ◌∙◌, sym, arith, ℤ, pos, ◌+ℤ◌, ◌-ℤ◌, ◌*ℤ◌, int_le, ◌&&◌, int_lt}
use Rattle.std.proofs.lemmas.Int.{ints}
use Rattle.exact.proofs.Ring.{mul_assoc_z, mul_left_comm_z, mul-sub_z, sub-mul_z}
use Rattle.polygons.proofs.Tests.{le_true, le_from, same_test}
use Rattle.plot_page.specs.Segments.{Segment}
use Rattle.areas.specs.Inside.{rises_past, falls_past}
use Rattle.areas.specs.Laws.{turned}

scaled_across : (r a b : ℤ) → (r *ℤ a) *ℤ b ≡ a *ℤ (r *ℤ b)
scaled_across r a b = mul_assoc_z r a b ∙ sym (mul_left_comm_z a r b)

-- both sides of the test and those of the turned one, added
sides : (r ax ay bx by x y : ℤ)
    → (ax -ℤ bx) *ℤ (y -ℤ r *ℤ by) +ℤ (bx -ℤ ax) *ℤ (y -ℤ r *ℤ ay)
    ≡ (x -ℤ r *ℤ bx) *ℤ (ay -ℤ by) +ℤ (x -ℤ r *ℤ ax) *ℤ (by -ℤ ay)
sides r ax ay bx by x y =
    let a = sub-mul_z ax bx (y -ℤ r *ℤ by) in
    let b = mul-sub_z ax y (r *ℤ by) in
    let c = mul-sub_z bx y (r *ℤ by) in
    let d = sub-mul_z bx ax (y -ℤ r *ℤ ay) in
    let e = mul-sub_z bx y (r *ℤ ay) in
    let f = mul-sub_z ax y (r *ℤ ay) in
    let g = sub-mul_z x (r *ℤ bx) (ay -ℤ by) in
    let h = mul-sub_z x ay by in
    let i = mul-sub_z (r *ℤ bx) ay by in
    let j = sub-mul_z x (r *ℤ ax) (by -ℤ ay) in
    let k = mul-sub_z x by ay in
    let l = mul-sub_z (r *ℤ ax) by ay in
    let m = scaled_across r bx ay in
    let n = scaled_across r bx by in
    let o = scaled_across r ax ay in
    let p = scaled_across r ax by in
    omega (arith, ints, a, b, c, d, e, f, g, h, i, j, k, l, m, n, o, p)

pub test_turned : (r ax ay bx by x y : ℤ)
    → int_le ((ax -ℤ bx) *ℤ (y -ℤ r *ℤ by)) ((x -ℤ r *ℤ bx) *ℤ (ay -ℤ by))
    ≡ int_le ((x -ℤ r *ℤ ax) *ℤ (by -ℤ ay)) ((bx -ℤ ax) *ℤ (y -ℤ r *ℤ ay))
test_turned r ax ay bx by x y =
    let s = sides r ax ay bx by x y in
    let a = (ax -ℤ bx) *ℤ (y -ℤ r *ℤ by) in
    let b = (x -ℤ r *ℤ bx) *ℤ (ay -ℤ by) in
    let c = (x -ℤ r *ℤ ax) *ℤ (by -ℤ ay) in
    let d = (bx -ℤ ax) *ℤ (y -ℤ r *ℤ ay) in
    same_test (int_le a b) (int_le c d)
    (λ e. let l = le_from a b e in le_true c d (omega (arith, ints, s, l)))
    (λ e. let l = le_from c d e in le_true a b (omega (arith, ints, s, l)))

pub rises_turned : (r : ℕ) (e : Segment) (x y : ℤ) → rises_past r (turned e) x y ≡ falls_past r e x y
rises_turned r e x y =
    ap (λ (b : Bool). (int_le (pos r *ℤ e.by) y && int_lt y (pos r *ℤ e.ay)) && b) (test_turned (pos r) e.ax e.ay e.bx e.by x y)

pub falls_turned : (r : ℕ) (e : Segment) (x y : ℤ) → falls_past r (turned e) x y ≡ rises_past r e x y
falls_turned r e x y =
    ap (λ (b : Bool). (int_le (pos r *ℤ e.ay) y && int_lt y (pos r *ℤ e.by)) && b) (sym (test_turned (pos r) e.bx e.by e.ax e.ay x y))
