-- An edge in a row, and in the row below.
use Rattle.std.proofs.Common.{◌≡◌, ℕ, ◌*◌, ◌^◌, ◌<◌, ◌≤◌, Bool, true, false, not, ◌&&◌, nat_le, inl, inr, ◌⊎◌, refl, sym, ap, ap₂, ◌∙◌, arith, ℤ, pos, nat_abs, ◌+ℤ◌, ◌-ℤ◌, ◌*ℤ◌, ◌≤ℤ◌, ◌<ℤ◌, int_le, int_lt}
use Rattle.std.proofs.lemmas.Bool.{cases_Bool}
use Rattle.std.proofs.lemmas.Int.{ints, unsigned_abs-mul}
use Rattle.std.proofs.lemmas.Nat.{mul-le}
use Rattle.std.proofs.Math.Nat.{le_of_mul-le-mul_left, mul_comm}
use Rattle.std.specs.Int.{int_div_euclid}
use Rattle.exact.proofs.Fit.{product_within}
use Rattle.exact.proofs.Ring.{mul_assoc_z, mul_comm_z, mul_left_comm_z, mul-add_z, mul-sub_z, sub-mul_z}
use Rattle.exact.proofs.Rounding.{floor_is, le_scale, lt_unscale}
use Rattle.plot_page.specs.Segments.{Segment}
use Rattle.polygons.proofs.Tests.{le_true, le_false, le_from, le_not, lt_true, lt_false, lt_from, lt_not, same_test}
use Rattle.areas.specs.Crossings.{IsClear, IsCrossing, centre_of_column}
use Rattle.areas.specs.Inside.{rises_past, falls_past}
use Rattle.areas.specs.Sweeps.{IsEdge, IsFar, IsInRow, IsWaiting, below, in_column, is_past, pixel_of, place_of, waiting_from}
use Rattle.areas.specs.declared.swept_edge.SweptEdge.{SweptEdge}
use Rattle.areas.proofs.Passes.{begins_above, begins_below, ends_above, ends_below, fails, fails_second}
use Rattle.areas.proofs.Turns.{test_turned}

above_zero : (z : ℤ) → pos 0 <ℤ z → z ≡ pos (nat_abs z)
above_zero z h = omega (arith, ints)

-- the test of a place in a row by its column
module _ (w p column short : ℤ) (k : ℕ) where
  by_column : pos 0 <ℤ w → column *ℤ w ≡ p +ℤ short → pos 0 ≤ℤ short → short <ℤ w → int_le p (pos k *ℤ w) ≡ int_le column (pos k)
  by_column some is low high =
      let n = nat_abs w in
      let wn = above_zero w some in
      let a : pos n *ℤ column ≡ p +ℤ short = mul_comm_z (pos n) column ∙ ap (λ (z : ℤ). column *ℤ z) (sym wn) ∙ is in
      let b : pos n *ℤ pos k ≡ pos k *ℤ w = mul_comm_z (pos n) (pos k) ∙ ap (λ (z : ℤ). pos k *ℤ z) (sym wn) in
      let c = mul-add_z (pos n) (pos k) (pos 1) in
      same_test (int_le p (pos k *ℤ w)) (int_le column (pos k))
      (λ e.
      let l = le_from p (pos k *ℤ w) e in
      let m = lt_unscale n column (pos k +ℤ pos 1) (omega (arith, ints, a, b, c, l, high, wn)) in
      le_true column (pos k) (omega (arith, ints, m)))
      (λ e.
      let l = le_from column (pos k) e in
      let m = le_scale n column (pos k) l in
      le_true p (pos k *ℤ w) (omega (arith, ints, a, b, m, low)))

-- both sides of the test of a place, moved
sides : (x run rise above c : ℤ) → (c -ℤ x) *ℤ rise -ℤ run *ℤ above ≡ (c -ℤ pos 8128) *ℤ rise -ℤ place_of x above run rise
sides x run rise above c =
    let a = sub-mul_z c x rise in
    let b = sub-mul_z c (pos 8128) rise in
    let d = sub-mul_z x (pos 8128) rise in
    omega (arith, ints, a, b, d)

pixels : (k : ℕ) (rise : ℤ) → (centre_of_column k -ℤ pos 8128) *ℤ rise ≡ pos k *ℤ (pos 16256 *ℤ rise)
pixels k rise =
    let c : centre_of_column k -ℤ pos 8128 ≡ pos k *ℤ pos 16256 = omega (arith, ints) in
    ap (λ (z : ℤ). z *ℤ rise) c ∙ mul_assoc_z (pos k) (pos 16256) rise

pub test_by_column : (r k : ℕ) (y : ℤ) (n : SweptEdge) → IsInRow r y n
    → int_le ((n.bx -ℤ n.ax) *ℤ (y -ℤ pos r *ℤ n.ay)) ((centre_of_column k -ℤ pos r *ℤ n.ax) *ℤ (n.by -ℤ n.ay)) ≡ int_le n.column (pos k)
test_by_column r k y n h =
    let rise = n.by -ℤ n.ay in
    let run = n.bx -ℤ n.ax in
    let above = y -ℤ pos r *ℤ n.ay in
    let x = pos r *ℤ n.ax in
    let p = place_of x above run rise in
    let c = centre_of_column k in
    let s = sides x run rise above c in
    let t = pixels k rise in
    same_test (int_le (run *ℤ above) ((c -ℤ x) *ℤ rise)) (int_le p (pos k *ℤ pixel_of n))
    (λ e. let l = le_from (run *ℤ above) ((c -ℤ x) *ℤ rise) e in le_true p (pos k *ℤ pixel_of n) (omega (arith, ints, s, t, l)))
    (λ e. let l = le_from p (pos k *ℤ pixel_of n) e in le_true (run *ℤ above) ((c -ℤ x) *ℤ rise) (omega (arith, ints, s, t, l)))
    ∙ by_column (pixel_of n) p n.column n.short k (omega (arith, ints, h.rising)) h.first h.short_low h.short_high

-- in the row below
module _ (r : ℕ) (y : ℤ) (n : SweptEdge) (h : IsInRow r y n) where
  abbrev rise : ℤ
  rise = n.by -ℤ n.ay

  abbrev run : ℤ
  run = n.bx -ℤ n.ax

  abbrev place : ℤ
  place = place_of (pos r *ℤ n.ax) (y -ℤ pos r *ℤ n.ay) run rise

  abbrev place_below : ℤ
  place_below = place_of (pos r *ℤ n.ax) (y -ℤ pos 16256 -ℤ pos r *ℤ n.ay) run rise

  lower : place_below ≡ place -ℤ pos 16256 *ℤ run
  lower =
      let e : y -ℤ pos 16256 -ℤ pos r *ℤ n.ay ≡ (y -ℤ pos r *ℤ n.ay) -ℤ pos 16256 = omega (arith, ints) in
      let a = ap (λ (z : ℤ). run *ℤ z) e in
      let b = mul-sub_z run (y -ℤ pos r *ℤ n.ay) (pos 16256) in
      let c = mul_comm_z run (pos 16256) in
      omega (arith, ints, a, b, c)

  stepped : (n.column -ℤ n.step) *ℤ pixel_of n ≡ place_below +ℤ (n.short +ℤ pos 16256 *ℤ n.rest)
  stepped =
      let a = sub-mul_z n.column n.step (pixel_of n) in
      let b = mul_left_comm_z n.step (pos 16256) rise in
      let c = ap (λ (z : ℤ). pos 16256 *ℤ z) h.slope in
      let d = mul-add_z (pos 16256) (n.step *ℤ rise) n.rest in
      omega (arith, ints, a, b, c, d, lower, h.first)

  stepped_back : (n.column -ℤ n.step -ℤ pos 1) *ℤ pixel_of n ≡ place_below +ℤ (n.short +ℤ pos 16256 *ℤ n.rest -ℤ pixel_of n)
  stepped_back =
      let a = sub-mul_z (n.column -ℤ n.step) (pos 1) (pixel_of n) in
      omega (arith, ints, a, stepped)

  in_row_of : (column short : ℤ) → column *ℤ pixel_of n ≡ place_below +ℤ short → pos 0 ≤ℤ short → short <ℤ pixel_of n
      → IsInRow r (y -ℤ pos 16256) (in_column n column short)
  in_row_of column short first low high = record {
    ax = h.ax;
    ay = h.ay;
    bx = h.bx;
    by = h.by;
    rising = h.rising;
    slope = h.slope;
    rest_low = h.rest_low;
    rest_high = h.rest_high;
    first = first;
    short_low = low;
    short_high = high;
  }

  pub in_row_below : IsInRow r (y -ℤ pos 16256) (below n)
  in_row_below =
      let short = n.short +ℤ pos 16256 *ℤ n.rest in
      elim (cases_Bool (int_lt short (pixel_of n))) [
        | inl t ↦ rw t (in_row_of (n.column -ℤ n.step) short stepped (omega (arith, ints, h.short_low, h.rest_low)) (lt_from short (pixel_of n) t))
        | inr f ↦ rw f (in_row_of (n.column -ℤ n.step -ℤ pos 1) (short -ℤ pixel_of n) stepped_back
            (let l = lt_not short (pixel_of n) f in omega (arith, ints, l))
            (omega (arith, ints, h.short_high, h.rest_high)))
      ]

-- a number is within a bound if a product with one above 0 is
factor_within : (a b : ℤ) (m : ℕ) → pos 0 <ℤ b → nat_abs (a *ℤ b) ≤ m → nat_abs a ≤ m
factor_within a b m some h =
    let e = unsigned_abs-mul a b in
    let f : 1 ≤ nat_abs b = omega (arith, ints, some) in
    let g = mul-le (nat_abs a) 1 (nat_abs a) (nat_abs b) (omega arith) f in
    omega (arith, e, g, h)

-- and by as much less as the other is at least
pub factor_many : (a b : ℤ) (k m : ℕ) → 0 < k → pos k ≤ℤ b → nat_abs (a *ℤ b) ≤ k * m → nat_abs a ≤ m
factor_many a b k m some many h =
    let e = unsigned_abs-mul a b in
    let f : k ≤ nat_abs b = omega (arith, ints, many) in
    let g = mul-le (nat_abs a) k (nat_abs a) (nat_abs b) (omega arith) f in
    let c = mul_comm k (nat_abs a) in
    let l : k * nat_abs a ≤ k * m = omega (arith, e, g, h, c) in
    le_of_mul-le-mul_left {m = nat_abs a} {n = m} {k = k} l some

-- how large its numbers are
module _ (r : ℕ) (y : ℤ) (n : SweptEdge) (few : r ≤ 1200) (near : nat_abs y ≤ 2 ^ 34) (h : IsInRow r y n) where
  pub step_within : nat_abs n.step ≤ 2 ^ 29
  step_within =
      factor_within n.step (n.by -ℤ n.ay) (2 ^ 29) (omega (arith, ints, h.rising))
      (omega (arith, ints, h.slope, h.rest_low, h.rest_high, h.ax, h.bx, h.ay, h.by))

  place_within : nat_abs (place_of (pos r *ℤ n.ax) (y -ℤ pos r *ℤ n.ay) (n.bx -ℤ n.ax) (n.by -ℤ n.ay)) ≤ 2 ^ 68
  place_within =
      let rn : nat_abs (pos r) ≤ 1200 = omega (arith, ints, few) in
      let a = product_within (pos r) n.ax 1200 (2 ^ 27) rn (omega (arith, h.ax)) in
      let b = product_within (pos r) n.ay 1200 (2 ^ 27) rn (omega (arith, h.ay)) in
      let run : nat_abs (n.bx -ℤ n.ax) ≤ 2 ^ 28 = omega (arith, ints, h.ax, h.bx) in
      let rise : nat_abs (n.by -ℤ n.ay) ≤ 2 ^ 28 = omega (arith, ints, h.ay, h.by) in
      let c = product_within (pos r *ℤ n.ax -ℤ pos 8128) (n.by -ℤ n.ay) (2 ^ 38) (2 ^ 28) (omega (arith, ints, a)) rise in
      let d = product_within (n.bx -ℤ n.ax) (y -ℤ pos r *ℤ n.ay) (2 ^ 28) (2 ^ 39) run (omega (arith, ints, b, near)) in
      omega (arith, ints, c, d)

  pub column_within : nat_abs n.column ≤ 2 ^ 57
  column_within =
      let some : pos 16256 ≤ℤ pixel_of n = omega (arith, ints, h.rising) in
      factor_many n.column (pixel_of n) 16256 (2 ^ 57) (omega arith) some
      (omega (arith, ints, h.first, place_within, h.short_low, h.short_high, h.ay, h.by))

-- and the rest of them
module _ (r : ℕ) (y : ℤ) (n : SweptEdge) (h : IsInRow r y n) where
  pub pixel_within : nat_abs (pixel_of n) ≤ 2 ^ 42
  pixel_within = omega (arith, ints, h.ay, h.by)

  pub short_within : nat_abs n.short ≤ 2 ^ 42
  short_within = omega (arith, ints, h.short_low, h.short_high, pixel_within)

  pub rest_within : nat_abs n.rest ≤ 2 ^ 28
  rest_within = omega (arith, ints, h.rest_low, h.rest_high, h.ay, h.by)

-- which of its places an edge passes, as it was given
module _ (r : ℕ) (e : Segment) (n : SweptEdge) where
  no_rise : e.by <ℤ e.ay → (x z : ℤ) → rises_past r e x z ≡ false
  no_rise h x z =
      let l = le_scale r e.by e.ay (omega (arith, ints, h)) in
      let right = int_le ((e.bx -ℤ e.ax) *ℤ (z -ℤ pos r *ℤ e.ay)) ((x -ℤ pos r *ℤ e.ax) *ℤ (e.by -ℤ e.ay)) in
      elim (cases_Bool (int_le (pos r *ℤ e.ay) z)) [
        | inl t ↦ (let low = le_from (pos r *ℤ e.ay) z t in
            fails_second (int_le (pos r *ℤ e.ay) z) (int_lt z (pos r *ℤ e.by)) right (lt_false z (pos r *ℤ e.by) (omega (arith, ints, l, low))))
        | inr f ↦ fails (int_le (pos r *ℤ e.ay) z) (int_lt z (pos r *ℤ e.by)) right f
      ]

  no_fall : e.ay <ℤ e.by → (x z : ℤ) → falls_past r e x z ≡ false
  no_fall h x z =
      let l = le_scale r e.ay e.by (omega (arith, ints, h)) in
      let left = int_le ((x -ℤ pos r *ℤ e.ax) *ℤ (e.by -ℤ e.ay)) ((e.bx -ℤ e.ax) *ℤ (z -ℤ pos r *ℤ e.ay)) in
      elim (cases_Bool (int_le (pos r *ℤ e.by) z)) [
        | inl t ↦ (let low = le_from (pos r *ℤ e.by) z t in
            fails_second (int_le (pos r *ℤ e.by) z) (int_lt z (pos r *ℤ e.ay)) left (lt_false z (pos r *ℤ e.ay) (omega (arith, ints, l, low))))
        | inr f ↦ fails (int_le (pos r *ℤ e.by) z) (int_lt z (pos r *ℤ e.ay)) left f
      ]

  pub edge_up : IsWaiting n → n ≡ waiting_from e.ax e.ay e.bx e.by true → e.ay <ℤ e.by → IsEdge r e n
  edge_up w f h = record {
    waits = w;
    rises = λ x z. rw f refl;
    falls = λ x z. rw f (sym (no_fall h x z));
  }

  pub edge_down : IsWaiting n → n ≡ waiting_from e.bx e.by e.ax e.ay false → e.by <ℤ e.ay → IsEdge r e n
  edge_down w f h = record {
    waits = w;
    rises = λ x z. rw f (sym (no_rise h x z));
    falls = λ x z.
        rw f (ap (λ (b : Bool). (int_le (pos r *ℤ e.by) z && int_lt z (pos r *ℤ e.ay)) && b) (test_turned (pos r) e.ax e.ay e.bx e.by x z));
  }

-- an edge that leads from a lower end to an upper one, in a row, by two divisions
pub divided_edge : (r : ℕ) (y : ℤ) (n : SweptEdge) (times : ℤ) → nat_abs n.ax ≤ 134217712 → nat_abs n.ay ≤ 134217712 → nat_abs n.bx ≤ 134217712 → nat_abs n.by ≤ 134217712
    → n.ay <ℤ n.by → n.step *ℤ (n.by -ℤ n.ay) +ℤ n.rest ≡ n.bx -ℤ n.ax → pos 0 ≤ℤ n.rest → n.rest <ℤ (n.by -ℤ n.ay) → n.column ≡ pos 0 -ℤ times
    → times *ℤ pixel_of n +ℤ n.short ≡ pos 0 -ℤ place_of (pos r *ℤ n.ax) (y -ℤ pos r *ℤ n.ay) (n.bx -ℤ n.ax) (n.by -ℤ n.ay)
    → pos 0 ≤ℤ n.short → n.short <ℤ pixel_of n → IsInRow r y n
divided_edge r y n times ax ay bx by rising slope low high is divides short_low short_high =
    let e = ap (λ (z : ℤ). z *ℤ pixel_of n) is in
    let f = sub-mul_z (pos 0) times (pixel_of n) in
    record {
      ax = ax;
      ay = ay;
      bx = bx;
      by = by;
      rising = rising;
      slope = slope;
      rest_low = low;
      rest_high = high;
      first = omega (arith, ints, e, f, divides);
      short_low = short_low;
      short_high = short_high;
    }

pub division : (a b times : ℤ) → pos 0 <ℤ b → times ≡ int_div_euclid a b → ((times *ℤ b) ≤ℤ a) × (a <ℤ (times *ℤ b +ℤ b))
division a b times some is =
    let k = nat_abs b in
    let e = above_zero b some in
    let f = floor_is a k (omega (arith, ints, some)) in
    let g : times *ℤ b ≡ pos k *ℤ int_div_euclid a (pos k) =
    mul_comm_z times b ∙ ap₂ (λ (x z : ℤ). x *ℤ z) e (is ∙ ap (λ (z : ℤ). int_div_euclid a z) e) in
    (omega (arith, ints, f.0, g), omega (arith, ints, f.1, g, e))

-- where a row that is level with an edge crosses it, and that no other row does
passes : (p q s : Bool) → p ≡ true → q ≡ true → ((p && q) && s) ≡ s
passes p q s e f = rw (e, f) refl

never : (b : Bool) → (b && false) ≡ false
never true = refl
never false = refl

module _ (r : ℕ) (y : ℤ) (n : SweptEdge) where
  abbrev begins : Bool
  begins = int_le (pos r *ℤ n.ay) y

  abbrev goes_on : Bool
  goes_on = int_lt y (pos r *ℤ n.by)

  abbrev right_of : ℤ → Bool
  right_of x = int_le ((n.bx -ℤ n.ax) *ℤ (y -ℤ pos r *ℤ n.ay)) ((x -ℤ pos r *ℤ n.ax) *ℤ (n.by -ℤ n.ay))

  pub crossing_here : (columns column : ℕ) → IsInRow r y n → (pos r *ℤ n.ay) ≤ℤ y → y <ℤ (pos r *ℤ n.by)
      → ((k : ℕ) → k < columns → nat_le column k ≡ int_le n.column (pos k)) → column ≤ columns
      → IsCrossing r y columns n (record { column = column; is_upward = n.is_upward })
  crossing_here columns column h low high is within =
      let past : (k : ℕ) → k < columns → is_past r n (centre_of_column k) y ≡ nat_le column k =
      λ k l.
      passes begins goes_on (right_of (centre_of_column k)) (le_true (pos r *ℤ n.ay) y low) (lt_true y (pos r *ℤ n.by) high)
      ∙ test_by_column r k y n h
      ∙ sym (is k l) in
      record {
        rises = λ k l. ap (λ (b : Bool). n.is_upward && b) (past k l);
        falls = λ k l. ap (λ (b : Bool). not n.is_upward && b) (past k l);
        within = within;
      }

  not_past : (y <ℤ (pos r *ℤ n.ay)) ⊎ ((pos r *ℤ n.by) ≤ℤ y) → (x : ℤ) → is_past r n x y ≡ false
  not_past (inl l) x = fails begins goes_on (right_of x) (le_false (pos r *ℤ n.ay) y l)
  not_past (inr l) x = fails_second begins goes_on (right_of x) (lt_false y (pos r *ℤ n.by) l)

  pub clear_here : (y <ℤ (pos r *ℤ n.ay)) ⊎ ((pos r *ℤ n.by) ≤ℤ y) → IsClear r y n
  clear_here h = record {
    rises = λ x. ap (λ (b : Bool). n.is_upward && b) (not_past h x) ∙ never n.is_upward;
    falls = λ x. ap (λ (b : Bool). not n.is_upward && b) (not_past h x) ∙ never (not n.is_upward);
  }

-- an edge that no row between two heights is level with
module _ (r : ℕ) (low y : ℤ) (e : Segment) where
  pub far : ((pos r *ℤ e.by) ≤ℤ (pos r *ℤ e.ay)) ⊎ ((y <ℤ (pos r *ℤ e.ay)) ⊎ ((pos r *ℤ e.by) ≤ℤ low))
      → ((pos r *ℤ e.ay) ≤ℤ (pos r *ℤ e.by)) ⊎ ((y <ℤ (pos r *ℤ e.by)) ⊎ ((pos r *ℤ e.ay) ≤ℤ low)) → IsFar r low y e
  far up down = record {
    rises = λ x z a b. elim up [
      | inl l ↦ elim (cases_Bool (int_le (pos r *ℤ e.ay) z)) [
        | inl t ↦ (let m = le_from (pos r *ℤ e.ay) z t in ends_below r z e x (omega (arith, ints, l, m)))
        | inr f ↦ (let m = le_not (pos r *ℤ e.ay) z f in begins_above r z e x m)
      ]
      | inr h ↦ elim h [
        | inl l ↦ begins_above r z e x (omega (arith, ints, l, b))
        | inr l ↦ ends_below r z e x (omega (arith, ints, l, a))
      ]
    ];
    falls = λ x z a b. elim down [
      | inl l ↦ elim (cases_Bool (int_le (pos r *ℤ e.by) z)) [
        | inl t ↦ (let m = le_from (pos r *ℤ e.by) z t in begins_below r z e x (omega (arith, ints, l, m)))
        | inr f ↦ (let m = le_not (pos r *ℤ e.by) z f in ends_above r z e x m)
      ]
      | inr h ↦ elim h [
        | inl l ↦ ends_above r z e x (omega (arith, ints, l, b))
        | inr l ↦ begins_below r z e x (omega (arith, ints, l, a))
      ]
    ];
  }
