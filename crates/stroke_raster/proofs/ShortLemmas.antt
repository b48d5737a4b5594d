-- The test of a short stroke.
use Rattle.std.proofs.Common.{◌≡◌, ℕ, zero, suc, ◌+◌, ◌-◌, ◌*◌, ◌<◌, ◌≤◌, inl, inr, refl, sym, ap, ap₂, ◌∙◌, arith, ℤ, pos, negsuc, ◌+ℤ◌, ◌-ℤ◌, ◌*ℤ◌, nat_abs, Bool, true, false, ◌&&◌, ◌||◌, if◌then◌else◌, int_le}
use Rattle.std.proofs.lemmas.Int.{ints, unsigned_abs-mul}
use Rattle.std.proofs.lemmas.Bool.{cases_Bool, or_left, or_right}
use Rattle.std.proofs.lemmas.Nat.{mul-le}
use Rattle.std.proofs.Math.Nat.{mul-le-mul_left, mul-le-mul_right}
use Rattle.exact.proofs.Ring.{mul-add_z, mul-sub_z, mul_left_comm_z, square_is}
use Rattle.stroke_raster.specs.declared.vector.Vector.{Vector}
use Rattle.stroke_raster.specs.Bounds.{Within}
use Rattle.stroke_raster.specs.Gap.{way, scaled, dot, cross, gap_met}
use Rattle.stroke_raster.specs.ShortNumbers.{AreShort, sides}
use Rattle.stroke_raster.proofs.GapLemmas.{cross_is, size, size_is, way_is}
use Rattle.stroke_raster.proofs.Scaling.{dot-scaled, dot-scaled_both, gap_met-scaled, square-scaled, way-scaled}
use Rattle.stroke_raster.proofs.Squares.{two_squares}

-- one of three answers that decides
decided : (p q l t : Bool) → (p ≡ true → t ≡ true) → (q ≡ true → t ≡ true) → (l ≡ true → t ≡ true) → (t ≡ true → (p || (q || l)) ≡ true) → (p || (q || l)) ≡ t
decided true q l t a b c d = sym (a refl)
decided false true l t a b c d = sym (b refl)
decided false false true t a b c d = sym (c refl)
decided false false false true a b c d = d refl
decided false false false false a b c d = refl

-- the answers of the tests, before the first end, past the last one and between both: z and m say which it is, o and q
-- are the tests of that, and p, g and l those of the first end, the last end and the line
before_case : (z o q m p g l : Bool) → z ≡ true → o ≡ false → (g ≡ true → p ≡ true) → (p || (g || ((o && q) && l))) ≡ (if z then p else if m then g else l)
before_case z o q m p g l ez eo a = rw (ez, eo) (decided p g false p (λ t. t) a (λ t. cc t) (λ t. or_left p (g || false) t))

past_case : (z o q m p g l : Bool) → z ≡ false → o ≡ true → q ≡ false → m ≡ true → (p ≡ true → g ≡ true) → (p || (g || ((o && q) && l))) ≡ (if z then p else if m then g else l)
past_case z o q m p g l ez eo eq em a = rw (ez, eo, eq, em) (decided p g false g a (λ t. t) (λ t. cc t) (λ t. or_right p (g || false) (or_left g false t)))

between_case : (z o q m p g l : Bool) → z ≡ false → o ≡ true → q ≡ true → m ≡ false → (p ≡ true → l ≡ true) → (g ≡ true → l ≡ true)
    → (p || (g || ((o && q) && l))) ≡ (if z then p else if m then g else l)
between_case z o q m p g l ez eo eq em a b = rw (ez, eo, eq, em) (decided p g l l a b (λ t. t) (λ t. or_right p (g || l) (or_right g l t)))

-- before the first end that end is the nearer one: b is twice how far before, times the resolution
before_ends : (a c g r b : ℕ) → g ≡ a + r * r * c + b → a ≤ g
before_ends a c g r b h = omega (arith, h)

-- past the last end that end is the nearer one
past_ends : (a c g r b : ℕ) → g + 2 * (r * b) ≡ a + r * (r * c) → r * c ≤ b → g ≤ a
past_ends a c g r b h k =
    let l : r * (r * c) ≤ r * b = mul-le-mul_left r k in
    omega (arith, h, l)

-- what is near an end is near the line
near_first_line : (a c x b e : ℕ) → x + b * b ≡ a * c → 4 * a ≤ e → 4 * x ≤ e * c
near_first_line a c x b e h k =
    let l : 4 * a * c ≤ e * c = mul-le-mul_right c k in
    omega (arith, h, l)

near_last_line : (a c g x r b e : ℕ) → g + 2 * (r * b) ≡ a + r * (r * c) → x + b * b ≡ a * c → 4 * g ≤ e → 4 * x ≤ e * c
near_last_line a c g x r b e h k m =
    let l : 4 * g * c ≤ e * c = mul-le-mul_right c m in
    let s = two_squares b (r * c) in
    let n = ap (λ (z : ℕ). z * c) h in
    omega (arith, k, l, s, n)

-- the test of all three, with a, g and c the squared ways to the ends and between them, x the squared cross product, and
-- e the squared width
all_tests : (B : ℤ) (a c g x r e : ℕ) → pos g +ℤ pos 2 *ℤ (pos r *ℤ B) ≡ pos a +ℤ pos (r * (r * c)) → pos x +ℤ B *ℤ B ≡ pos (a * c)
    → (int_le (pos (4 * a)) (pos e) || (int_le (pos (4 * g)) (pos e) || ((int_le (pos 1) (pos 2 *ℤ B) && int_le (pos 2 *ℤ B) (pos (2 * (r * c) - 1))) && int_le (pos (4 * x)) (pos (e * c)))))
    ≡ (if int_le B (pos 0) then int_le (pos (4 * a)) (pos e) else if int_le (pos (r * c)) B then int_le (pos (4 * g)) (pos e) else int_le (pos (4 * x)) (pos (e * c)))
all_tests (negsuc n) a c g x r e h k =
    let l : a ≤ g = before_ends a c g r (2 * (r * suc n)) (omega (arith, ints, h)) in
    let z : int_le (negsuc n) (pos 0) ≡ true = sym (omega (arith, ints)) in
    let o : int_le (pos 1) (pos 2 *ℤ negsuc n) ≡ false = sym (omega (arith, ints)) in
    before_case (int_le (negsuc n) (pos 0)) (int_le (pos 1) (pos 2 *ℤ negsuc n)) (int_le (pos 2 *ℤ negsuc n) (pos (2 * (r * c) - 1))) (int_le (pos (r * c)) (negsuc n)) (int_le (pos (4 * a)) (pos e)) (int_le (pos (4 * g)) (pos e)) (int_le (pos (4 * x)) (pos (e * c))) z o (λ t. sym (omega (arith, ints, t, l)))
all_tests (pos zero) a c g x r e h k =
    let l : a ≤ g = before_ends a c g r 0 (omega (arith, ints, h)) in
    let z : int_le (pos 0) (pos 0) ≡ true = sym (omega (arith, ints)) in
    let o : int_le (pos 1) (pos 2 *ℤ pos 0) ≡ false = sym (omega (arith, ints)) in
    before_case (int_le (pos 0) (pos 0)) (int_le (pos 1) (pos 2 *ℤ pos 0)) (int_le (pos 2 *ℤ pos 0) (pos (2 * (r * c) - 1))) (int_le (pos (r * c)) (pos 0)) (int_le (pos (4 * a)) (pos e)) (int_le (pos (4 * g)) (pos e)) (int_le (pos (4 * x)) (pos (e * c))) z o (λ t. sym (omega (arith, ints, t, l)))
all_tests (pos (suc n)) a c g x r e h k =
    let z : int_le (pos (suc n)) (pos 0) ≡ false = sym (omega (arith, ints)) in
    let o : int_le (pos 1) (pos 2 *ℤ pos (suc n)) ≡ true = sym (omega (arith, ints)) in
    let h' : g + 2 * (r * suc n) ≡ a + r * (r * c) = omega (arith, ints, h) in
    let k' : x + suc n * suc n ≡ a * c = omega (arith, ints, k) in
    elim (cases_Bool (int_le (pos (r * c)) (pos (suc n)))) [
      | inl m ↦ (let q : int_le (pos 2 *ℤ pos (suc n)) (pos (2 * (r * c) - 1)) ≡ false = sym (omega (arith, ints, m)) in
          let l : g ≤ a = past_ends a c g r (suc n) h' (omega (arith, ints, m)) in
          past_case (int_le (pos (suc n)) (pos 0)) (int_le (pos 1) (pos 2 *ℤ pos (suc n))) (int_le (pos 2 *ℤ pos (suc n)) (pos (2 * (r * c) - 1))) (int_le (pos (r * c)) (pos (suc n))) (int_le (pos (4 * a)) (pos e)) (int_le (pos (4 * g)) (pos e)) (int_le (pos (4 * x)) (pos (e * c))) z o q m (λ t. sym (omega (arith, ints, t, l))))
      | inr m ↦ (let q : int_le (pos 2 *ℤ pos (suc n)) (pos (2 * (r * c) - 1)) ≡ true = sym (omega (arith, ints, m)) in
          between_case (int_le (pos (suc n)) (pos 0)) (int_le (pos 1) (pos 2 *ℤ pos (suc n))) (int_le (pos 2 *ℤ pos (suc n)) (pos (2 * (r * c) - 1))) (int_le (pos (r * c)) (pos (suc n))) (int_le (pos (4 * a)) (pos e)) (int_le (pos (4 * g)) (pos e)) (int_le (pos (4 * x)) (pos (e * c))) z o q m
          (λ t. (let u = near_first_line a c x (suc n) e k' (omega (arith, ints, t)) in sym (omega (arith, ints, u))))
          (λ t. (let u = near_last_line a c g x r (suc n) e h' k' (omega (arith, ints, t)) in sym (omega (arith, ints, u)))))
    ]

-- a factor moves out of the second way
dot-scaled_last : (k : ℤ) (v w : Vector) → dot v (scaled k w) ≡ k *ℤ dot v w
dot-scaled_last k v w = ap₂ ◌+ℤ◌ (mul_left_comm_z v.x k w.x) (mul_left_comm_z v.y k w.y) ∙ sym (mul-add_z k (v.x *ℤ w.x) (v.y *ℤ w.y))

cross-scaled_last : (k : ℤ) (v w : Vector) → cross v (scaled k w) ≡ k *ℤ cross v w
cross-scaled_last k v w = ap₂ ◌-ℤ◌ (mul_left_comm_z v.x k w.y) (mul_left_comm_z v.y k w.x) ∙ sym (mul-sub_z k (v.x *ℤ w.y) (v.y *ℤ w.x))

-- the squared length of a way that is doubled
doubled_size : (w : Vector) → dot (scaled (pos 2) w) (scaled (pos 2) w) ≡ pos (4 * size w)
doubled_size w =
    let e = dot-scaled_both (pos 2) w in
    let s = size_is w in
    omega (arith, ints, e, s)

-- the test in whole numbers
whole_test : (v w : Vector) (r d : ℕ) → 0 < r
    → (int_le (pos (4 * size w)) (pos (d * d)) || (int_le (pos (4 * size (way (scaled (pos r) v) w))) (pos (d * d)) || ((int_le (pos 1) (pos 2 *ℤ dot v w) && int_le (pos 2 *ℤ dot v w) (pos (2 * (r * size v) - 1))) && int_le (pos (4 * (nat_abs (cross v w) * nat_abs (cross v w)))) (pos (d * d * size v)))))
    ≡ gap_met (scaled (pos r) v) w d
whole_test v w r d some =
    let u = scaled (pos r) v in
    let g = way_is u w in
    let eg = size_is (way u w) in
    let ea = size_is w in
    let ec = size_is v in
    let ev = dot-scaled_both (pos r) v in
    let eb = dot-scaled (pos r) v w in
    let i : pos (size (way (scaled (pos r) v) w)) +ℤ pos 2 *ℤ (pos r *ℤ dot v w) ≡ pos (size w) +ℤ pos (r * (r * size v)) = rw (eg, ea, ev, eb, ec) at g in
    let ex = square_is (cross v w) in
    let x : pos (nat_abs (cross v w) * nat_abs (cross v w)) +ℤ dot v w *ℤ dot v w ≡ pos (size w * size v) = rw (ex, ea, ec) at (cross_is v w) in
    let t = all_tests (dot v w) (size w) (size v) (size (way (scaled (pos r) v) w)) (nat_abs (cross v w) * nat_abs (cross v w)) r (d * d) i x in
    t ∙ (rw (ea, ec, eg, ex) refl) ∙ sym (gap_met-scaled r d v w some)

-- the test of a short stroke, with its numbers
pub short_test : (v w last : Vector) (r d past : ℕ) (reach limit : ℤ) → AreShort v r d last past reach limit
    → (int_le (dot (scaled (pos 2) w) (scaled (pos 2) w)) reach || (int_le (dot (way last (scaled (pos 2) w)) (way last (scaled (pos 2) w))) reach || ((int_le (pos 1) (dot v (scaled (pos 2) w)) && int_le (dot v (scaled (pos 2) w)) (pos past)) && int_le (cross v (scaled (pos 2) w) *ℤ cross v (scaled (pos 2) w)) limit)))
    ≡ gap_met (scaled (pos r) v) w d
short_test v w last r d past reach limit a =
    let u = scaled (pos r) v in
    let e1 = doubled_size w in
    let e2 : dot (way last (scaled (pos 2) w)) (way last (scaled (pos 2) w)) ≡ pos (4 * size (way (scaled (pos r) v) w)) =
    ap (λ (z : Vector). dot (way z (scaled (pos 2) w)) (way z (scaled (pos 2) w))) a.last_is ∙ ap (λ (z : Vector). dot z z) (way-scaled (pos 2) u w) ∙ doubled_size (way u w) in
    let e3 = dot-scaled_last (pos 2) v w in
    let ec = size_is v in
    let e4 : past ≡ 2 * (r * size v) - 1 = a.past_is ∙ ap (λ (z : ℤ). 2 * (r * nat_abs z) - 1) ec in
    let ex = square_is (cross v w) in
    let sq = square-scaled (pos 2) (cross v w) in
    let e5 : cross v (scaled (pos 2) w) *ℤ cross v (scaled (pos 2) w) ≡ pos (4 * (nat_abs (cross v w) * nat_abs (cross v w))) =
    ap (λ (z : ℤ). z *ℤ z) (cross-scaled_last (pos 2) v w) ∙ omega (arith, ints, sq, ex) in
    let e6 : limit ≡ pos (d * d * size v) = a.limit_is ∙ ap (λ (z : ℤ). pos (d * d) *ℤ z) ec in
    rw (e1, e2, e3, e4, e5, e6, a.reach_is) (whole_test v w r d a.some)

-- a number moves to the other side of a comparison
pub moved_over : (a b r : ℤ) → int_le a (r -ℤ b) ≡ int_le (a +ℤ b) r
moved_over a b r = elim (cases_Bool (int_le (a +ℤ b) r)) [
  | inl e ↦ (let t : int_le a (r -ℤ b) ≡ true = sym (omega (arith, ints, e)) in t ∙ sym e)
  | inr e ↦ (let t : int_le a (r -ℤ b) ≡ false = sym (omega (arith, ints, e)) in t ∙ sym e)
]

-- a side of a course, in grains divided by the resolution, and doubled
last_side : (z : ℤ) (r n : ℕ) → r * n ≤ 262144 → nat_abs z ≤ n → nat_abs (pos 2 *ℤ (pos r *ℤ z)) ≤ 524288
last_side z r n h k =
    let e : nat_abs (pos r *ℤ z) ≡ r * nat_abs z = unsigned_abs-mul (pos r) z in
    let l : r * nat_abs z ≤ r * n = mul-le-mul_left r k in
    omega (arith, ints, e, l, h)

-- the way to the last end is small
pub last_within : (v : Vector) (r d past : ℕ) (last : Vector) (reach limit : ℤ) → AreShort v r d last past reach limit → Within 524288 last
last_within v r d past last reach limit a =
    let h : Within 524288 (scaled (pos 2) (scaled (pos r) v)) = record {
      x = last_side v.x r (sides v) a.short.pixels (omega arith);
      y = last_side v.y r (sides v) a.short.pixels (omega arith);
    } in
    rw a.last_is h

-- a product of a side and a small number
side_product : (a b : ℤ) (k : ℕ) → nat_abs b ≤ k → nat_abs (a *ℤ b) ≤ nat_abs a * k
side_product a b k h =
    let e = unsigned_abs-mul a b in
    let l : nat_abs a * nat_abs b ≤ nat_abs a * k = mul-le-mul_left (nat_abs a) h in
    omega (arith, e, l)

-- the cross product of a short course and a small way
pub cross_small : (v w : Vector) (k : ℕ) → Within k w → nat_abs (cross v w) ≤ sides v * k
cross_small v w k h =
    let a = side_product v.x w.y k h.y in
    let b = side_product v.y w.x k h.x in
    omega (arith, ints, a, b)

-- the squared length of a short course
pub size_small : (v : Vector) → sides v ≤ 2048 → size v ≤ 4194304
unfolding size
size_small v h =
    let l : (nat_abs v.x + nat_abs v.y) * (nat_abs v.x + nat_abs v.y) ≤ 2048 * 2048 = mul-le (nat_abs v.x + nat_abs v.y) (nat_abs v.x + nat_abs v.y) 2048 2048 h h in
    omega (arith, l)

-- the dot product of a short course with the way to its end
pub along_small : (v : Vector) (r : ℕ) → sides v ≤ 2048 → r * sides v ≤ 262144 → r * size v ≤ 536870912
unfolding size
along_small v r h k =
    let x = nat_abs v.x in
    let y = nat_abs v.y in
    let l : r * (nat_abs v.x + nat_abs v.y) * (nat_abs v.x + nat_abs v.y) ≤ 262144 * 2048 = mul-le (r * (nat_abs v.x + nat_abs v.y)) (nat_abs v.x + nat_abs v.y) 262144 2048 k h in
    let m : r * (nat_abs v.x * nat_abs v.x + nat_abs v.y * nat_abs v.y) ≤ r * ((nat_abs v.x + nat_abs v.y) * (nat_abs v.x + nat_abs v.y)) = mul-le-mul_left r (omega arith) in
    omega (arith, l, m)
