-- What follows where X(u) lies on a line: places, coordinates and solutions.
use Rattle.std.proofs.Common.{◌≡◌, ◌≢◌, ◌<◌, ℕ, ◌*◌, refl, sym, ap, ◌∙◌, arith, ℤ, pos, ◌+ℤ◌, ◌-ℤ◌, ◌*ℤ◌}
use Rattle.std.proofs.lemmas.Int.{ints}
use Rattle.exact.proofs.Ring.{mul_assoc_z, mul_comm_z, mul_left_comm_z, add-mul_z, sub-mul_z}
use Rattle.exact.specs.Fraction.{Fraction, whole, quotient, plus, times}
use Rattle.plot_frame.specs.declared.axis.Axis.{Axis}
use Rattle.plot_frame.specs.Frame.{minus, grains, units, solved, coordinate}
use Rattle.plot_frame.specs.Line.{place, back}
use Rattle.plot_frame.specs.Laws.{IsSolution, IsOnlySolution}
use Rattle.plot_frame.proofs.Values.{Is, is_whole, is_times_both, is_plus, is_times, is_minus, is_as, is_off, is_one, is_divided, same_value, round_is, above_0, product_not_0, product_above, divided_above}

-- the line's offset without the margin
abbrev pub rest : Axis → ℕ → ℤ
rest a margin = a.offset -ℤ pos 16 *ℤ (pos margin *ℤ a.under)

-- X(u) is (slope * u + rest) / (16 * under)
pub record OnLine (at : Fraction → Fraction) (a : Axis) (margin : ℕ) : Type 0 where
  pub above : (u : Fraction) → 0 < u.under → 0 < (at u).under
  pub value : (u : Fraction) → 0 < u.under → Is (at u) (a.slope *ℤ u.over +ℤ rest a margin *ℤ pos u.under) (pos 16 *ℤ (a.under *ℤ pos u.under))
  pub slope_not_0 : a.slope ≢ pos 0
  pub under_not_0 : a.under ≢ pos 0

-- at a whole number
at_whole : (at : Fraction → Fraction) (a : Axis) (margin : ℕ) → OnLine at a margin → (u : ℤ) → Is (at (whole u)) (a.slope *ℤ u +ℤ rest a margin) (pos 16 *ℤ a.under)
at_whole at a margin l u =
    let p : a.slope *ℤ u +ℤ rest a margin *ℤ pos 1 ≡ a.slope *ℤ u +ℤ rest a margin = ap (λ (z : ℤ). a.slope *ℤ u +ℤ z) (by_one (rest a margin)) in
    let q : pos 16 *ℤ (a.under *ℤ pos 1) ≡ pos 16 *ℤ a.under = ap (λ (z : ℤ). pos 16 *ℤ z) (by_one a.under) in
    is_as (at (whole u)) _ _ _ _ p q (l.value (whole u) (omega arith))
  where
    by_one : (z : ℤ) → z *ℤ pos 1 ≡ z
    by_one z = omega (arith, ints)

-- the place of X(u)
pub place_is : (at : Fraction → Fraction) (a : Axis) (margin : ℕ) → OnLine at a margin → (u : ℤ) → grains (at (whole u)) margin ≡ place a u
place_is at a margin l u =
    let d = pos 16 *ℤ a.under in
    let n = a.slope *ℤ u +ℤ rest a margin in
    let z = a.slope *ℤ u +ℤ a.offset in
    let x : Fraction = plus (at (whole u)) (whole (pos margin)) in
    let f : Fraction = times (whole (pos 16)) x in
    let i = is_plus (at (whole u)) (whole (pos margin)) n (pos margin *ℤ d) d (at_whole at a margin l u) (is_whole (pos margin) d) in
    let e : n +ℤ pos margin *ℤ d ≡ z = (let m = mul_left_comm_z (pos margin) (pos 16) a.under in omega (arith, ints)) in
    let o : Is (whole (pos 16)) (pos 16) (pos 1) = refl in
    let j = is_times (whole (pos 16)) x (pos 16) z (pos 1) d o (is_as x _ _ _ _ e refl i) in
    let k = is_off f z a.under (pos 16) (above_0 16 (omega arith)) (is_as f _ _ _ _ refl (one_by d) j) in
    let h = l.above (whole u) (omega arith) in
    round_is f z a.under (omega arith) l.under_not_0 k
  where
    one_by : (z : ℤ) → pos 1 *ℤ z ≡ z
    one_by z = omega (arith, ints)

-- the solution of X(u) = x, where x is n / (k * 16 * under)
solved_is : (at : Fraction → Fraction) (a : Axis) (margin : ℕ) → OnLine at a margin → (x : Fraction) (n k : ℤ) → 0 < x.under → k ≢ pos 0 → Is x n ((pos 16 *ℤ a.under) *ℤ k)
    → Is (solved at x) (n -ℤ rest a margin *ℤ k) (a.slope *ℤ k)
solved_is at a margin l x n k u z h =
    let d = pos 16 *ℤ a.under in
    let at_0 : Fraction = at (whole (pos 0)) in
    let at_1 : Fraction = at (whole (pos 1)) in
    let r = rest a margin in
    let e0 : a.slope *ℤ pos 0 +ℤ r ≡ r = omega (arith, ints) in
    let e1 : a.slope *ℤ pos 1 +ℤ r ≡ a.slope +ℤ r = omega (arith, ints) in
    let i0 = is_times_both at_0 r d k (is_as at_0 _ _ _ _ e0 refl (at_whole at a margin l (pos 0))) in
    let i1 = is_times_both at_1 (a.slope +ℤ r) d k (is_as at_1 _ _ _ _ e1 refl (at_whole at a margin l (pos 1))) in
    let f : Fraction = minus x at_0 in
    let g : Fraction = minus at_1 at_0 in
    let i = is_minus x at_0 n (r *ℤ k) (d *ℤ k) h i0 in
    let j = is_minus at_1 at_0 ((a.slope +ℤ r) *ℤ k) (r *ℤ k) (d *ℤ k) i1 i0 in
    let e : (a.slope +ℤ r) *ℤ k -ℤ r *ℤ k ≡ a.slope *ℤ k = (let m = add-mul_z a.slope r k in omega (arith, ints)) in
    let h0 = l.above (whole (pos 0)) (omega arith) in
    let h1 = l.above (whole (pos 1)) (omega arith) in
    is_divided f g (n -ℤ r *ℤ k) (a.slope *ℤ k) (d *ℤ k) (product_above x.under (1 * at_0.under) u (omega arith)) (product_above at_1.under (1 * at_0.under) h1 (omega arith)) i (is_as g _ _ _ _ e refl j)

solved_above : (at : Fraction → Fraction) (a : Axis) (margin : ℕ) → OnLine at a margin → (x : Fraction) → 0 < x.under → 0 < (solved at x).under
solved_above at a margin l x u =
    let d = pos 16 *ℤ a.under in
    let at_0 : Fraction = at (whole (pos 0)) in
    let at_1 : Fraction = at (whole (pos 1)) in
    let h0 = l.above (whole (pos 0)) (omega arith) in
    let h1 = l.above (whole (pos 1)) (omega arith) in
    let j = is_minus at_1 at_0 (a.slope *ℤ pos 1 +ℤ rest a margin) (a.slope *ℤ pos 0 +ℤ rest a margin) d (at_whole at a margin l (pos 1)) (at_whole at a margin l (pos 0)) in
    let e : (a.slope *ℤ pos 1 +ℤ rest a margin) -ℤ (a.slope *ℤ pos 0 +ℤ rest a margin) ≡ a.slope = omega (arith, ints) in
    divided_above (minus x at_0) (minus at_1 at_0) a.slope d (product_above x.under (1 * at_0.under) u (omega arith)) (product_above at_1.under (1 * at_0.under) h1 (omega arith)) l.slope_not_0 (is_as (minus at_1 at_0) _ _ _ _ e refl j)

-- the coordinate of a place
pub coordinate_is : (at : Fraction → Fraction) (a : Axis) (margin : ℕ) → OnLine at a margin → (q : ℤ) → coordinate at q margin ≡ back a q
coordinate_is at a margin l q =
    let x : Fraction = units q margin in
    let r = rest a margin in
    let i = is_minus (quotient q (pos 16)) (whole (pos margin)) q (pos margin *ℤ pos 16) (pos 16) refl (is_whole (pos margin) (pos 16)) in
    let j = is_times_both x (q -ℤ pos margin *ℤ pos 16) (pos 16) a.under i in
    let e : pos 16 *ℤ a.under ≡ (pos 16 *ℤ a.under) *ℤ pos 1 = by_one (pos 16 *ℤ a.under) in
    let n = (q -ℤ pos margin *ℤ pos 16) *ℤ a.under in
    let s = solved_is at a margin l x n (pos 1) (omega arith) (above_0 1 (omega arith)) (is_as x n (pos 16 *ℤ a.under) n ((pos 16 *ℤ a.under) *ℤ pos 1) refl e j) in
    let f : (q -ℤ pos margin *ℤ pos 16) *ℤ a.under -ℤ r *ℤ pos 1 ≡ q *ℤ a.under -ℤ a.offset =
    (let m = sub-mul_z q (pos margin *ℤ pos 16) a.under in
    let n = ap (λ (z : ℤ). z *ℤ a.under) (mul_comm_z (pos margin) (pos 16)) ∙ mul_assoc_z (pos 16) (pos margin) a.under in
    omega (arith, ints)) in
    let g : a.slope *ℤ pos 1 ≡ a.slope = sym (by_one a.slope) in
    round_is (solved at x) (q *ℤ a.under -ℤ a.offset) a.slope (solved_above at a margin l x (omega arith)) l.slope_not_0 (is_as (solved at x) _ _ _ _ f g s)
  where
    by_one : (z : ℤ) → z ≡ z *ℤ pos 1
    by_one z = omega (arith, ints)

-- any x is some n / (k * 16 * under)
solved_for : (at : Fraction → Fraction) (a : Axis) (margin : ℕ) → OnLine at a margin → (x : Fraction) → 0 < x.under
    → Is (solved at x) (x.over *ℤ (pos 16 *ℤ a.under) -ℤ rest a margin *ℤ pos x.under) (a.slope *ℤ pos x.under)
solved_for at a margin l x u =
    let d = pos 16 *ℤ a.under in
    let i : Is x (x.over *ℤ d) (d *ℤ pos x.under) = ap (λ (z : ℤ). x.over *ℤ z) refl ∙ sym (mul_assoc_z x.over d (pos x.under)) in
    solved_is at a margin l x (x.over *ℤ d) (pos x.under) u (above_0 x.under u) i

-- both sides of X(u) = x, with and without their denominators, differ by the same
same_difference : (t y r w p o d : ℤ) → (t *ℤ y +ℤ r *ℤ w) *ℤ p -ℤ (d *ℤ w) *ℤ o ≡ y *ℤ (t *ℤ p) -ℤ (o *ℤ d -ℤ r *ℤ p) *ℤ w
same_difference t y r w p o d =
    let a = add-mul_z (t *ℤ y) (r *ℤ w) p in
    let b : (t *ℤ y) *ℤ p ≡ y *ℤ (t *ℤ p) = ap (λ (z : ℤ). z *ℤ p) (mul_comm_z t y) ∙ mul_assoc_z y t p in
    let c = sub-mul_z (o *ℤ d) (r *ℤ p) w in
    let e : (r *ℤ p) *ℤ w ≡ (r *ℤ w) *ℤ p = mul_assoc_z r p w ∙ ap (λ (z : ℤ). r *ℤ z) (mul_comm_z p w) ∙ sym (mul_assoc_z r w p) in
    let f : (o *ℤ d) *ℤ w ≡ (d *ℤ w) *ℤ o = mul_assoc_z o d w ∙ mul_comm_z o (d *ℤ w) in
    omega (arith, ints)

-- X of the solution is x
pub solution_is : (at : Fraction → Fraction) (a : Axis) (margin : ℕ) → OnLine at a margin → (x : Fraction) → 0 < x.under → IsSolution at x
solution_is at a margin l x u =
    let v : Fraction = solved at x in
    let p = pos x.under in
    let w = pos v.under in
    let d = pos 16 *ℤ a.under in
    let r = rest a margin in
    let hv = solved_above at a margin l x u in
    let i = l.value v hv in
    let j = is_times_both (at v) (a.slope *ℤ v.over +ℤ r *ℤ w) (pos 16 *ℤ (a.under *ℤ w)) p i in
    let s : v.over *ℤ (a.slope *ℤ p) ≡ (x.over *ℤ d -ℤ r *ℤ p) *ℤ w = solved_for at a margin l x u in
    let e : (a.slope *ℤ v.over +ℤ r *ℤ w) *ℤ p ≡ (d *ℤ w) *ℤ x.over = (let m = same_difference a.slope v.over r w p x.over d in omega (arith, ints)) in
    let f : (pos 16 *ℤ (a.under *ℤ w)) *ℤ p ≡ (d *ℤ w) *ℤ p = ap (λ (z : ℤ). z *ℤ p) (sym (mul_assoc_z (pos 16) a.under w)) in
    is_off (at v) x.over p (d *ℤ w) (product_not_0 d w (product_not_0 (pos 16) a.under (above_0 16 (omega arith)) l.under_not_0) (above_0 v.under hv)) (is_as (at v) _ _ _ _ e f j)

-- and no other number has X(u) = x
pub only_solution_is : (at : Fraction → Fraction) (a : Axis) (margin : ℕ) → OnLine at a margin → (x : Fraction) → 0 < x.under → IsOnlySolution at x
only_solution_is at a margin l x h u k s =
    let p = pos x.under in
    let w = pos u.under in
    let d = pos 16 *ℤ a.under in
    let r = rest a margin in
    let i = l.value u k in
    let e : x.over *ℤ (pos 16 *ℤ (a.under *ℤ w)) ≡ (a.slope *ℤ u.over +ℤ r *ℤ w) *ℤ p = is_one (at u) x.over (a.slope *ℤ u.over +ℤ r *ℤ w) p (pos 16 *ℤ (a.under *ℤ w)) (l.above u k) s i in
    let f : (d *ℤ w) *ℤ x.over ≡ (a.slope *ℤ u.over +ℤ r *ℤ w) *ℤ p = mul_comm_z (d *ℤ w) x.over ∙ ap (λ (z : ℤ). x.over *ℤ z) (mul_assoc_z (pos 16) a.under w) ∙ e in
    let g : u.over *ℤ (a.slope *ℤ p) ≡ (x.over *ℤ d -ℤ r *ℤ p) *ℤ w = (let m = same_difference a.slope u.over r w p x.over d in omega (arith, ints)) in
    same_value u (solved at x) (x.over *ℤ d -ℤ r *ℤ p) (a.slope *ℤ p) (product_not_0 a.slope p l.slope_not_0 (above_0 x.under h)) g (solved_for at a margin l x h)
