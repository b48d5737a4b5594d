-- The strip along a stroke's line: bounds by division, and what lies outside them.
use Rattle.std.proofs.Common.{zero, suc, ◌≡◌, ℕ, ◌+◌, ◌-◌, ◌*◌, ◌/◌, ◌<◌, ◌≤◌, ◌^◌, inl, inr, refl, sym, subst, ap, ap₂, ◌∙◌, arith, ℤ, pos, negsuc, ◌+ℤ◌, ◌-ℤ◌, ◌*ℤ◌, ◌≤ℤ◌, ◌<ℤ◌, neg_ℤ, nat_abs, true, false, int_le, cond, min}
use Rattle.std.proofs.lemmas.Int.{ints}
use Rattle.std.specs.Int.Signed.{le_z, lt_z}
use Rattle.std.proofs.lemmas.Bool.{cases_Bool, cases_lt}
use Rattle.std.proofs.lemmas.Nat.{mul-le}
use Rattle.std.proofs.Math.Nat.{mul-le-mul_left, le_of_mul-le-mul_left, mul-lt-mul_of_pos_left, lt_of_mul-lt-mul_right, div-lt_iff_lt-mul, le-div_iff_mul-le}
use Rattle.exact.proofs.Ring.{mul_comm_z, mul_left_comm_z, mul-add_z, mul-sub_z, square_is}
use Rattle.stroke_raster.specs.declared.vector.Vector.{Vector}
use Rattle.stroke_raster.specs.Gap.{way, scaled, dot, cross}
use Rattle.stroke_raster.specs.Covers.{drawn_width}
use Rattle.stroke_raster.specs.declared.trace.Trace.{Trace}
use Rattle.stroke_raster.specs.TraceNumbers.{IsSlope}
use Rattle.stroke_raster.specs.Traces.{is_met, rightward}
use Rattle.stroke_raster.proofs.GapLemmas.{cross_is, size, size_is}
use Rattle.stroke_raster.proofs.Scaling.{gap_met_unscaled, gap_met-scaled}
use Rattle.stroke_raster.proofs.Squares.{two_squares}
use Rattle.stroke_raster.proofs.BoxLemmas.{roots}

-- one step of Newton's method does not fall below the root
newton_core : (n g q l : ℕ) → n < (q + 1) * g → g + q + 1 ≤ 2 * l → n ≤ l * l
newton_core n g q l h k =
    let s = two_squares g (q + 1) in
    let m : (g + q + 1) * (g + q + 1) ≤ (2 * l) * (2 * l) = mul-le (g + q + 1) (g + q + 1) (2 * l) (2 * l) k k in
    omega (arith, s, m, h)

pub newton : (n g : ℕ) → 0 < g → n ≤ ((g + n / g) / 2 + 1) * ((g + n / g) / 2 + 1)
newton n g h =
    let d : n < (n / g + 1) * g = (div-lt_iff_lt-mul h).0 (omega arith) in
    newton_core n g (n / g) ((g + n / g) / 2 + 1) d (omega arith)

-- past the product with a reciprocal that is not too small the multiples are past the number
past_inverse : (a v g w i : ℕ) → 0 < w → 0 < g → w ≤ v * g → a * v / w < i → a < i * g
past_inverse a v g w i h k l m =
    let p : a * v < i * w = (div-lt_iff_lt-mul h).0 m in
    let q : a * w ≤ a * (v * g) = mul-le-mul_left a l in
    let r : g * (a * v) < g * (i * w) = mul-lt-mul_of_pos_left p k in
    lt_of_mul-lt-mul_right w (omega (arith, q, r))

-- up to the product with a reciprocal that is not too great the multiples are not past the number
before_inverse : (a v g w i : ℕ) → 0 < w → v * g ≤ w → i ≤ a * v / w → i * g ≤ a
before_inverse a v g w i h k l =
    let p : i * w ≤ a * v = (le-div_iff_mul-le h).0 l in
    let q : a * (v * g) ≤ a * w = mul-le-mul_left a k in
    let r : g * (i * w) ≤ g * (a * v) = mul-le-mul_left g p in
    let s : w * (i * g) ≤ w * a = omega (arith, q, r) in
    le_of_mul-le-mul_left s h

-- before the gap's two ends, by Lagrange's identity
near_core : (x y a b d : ℕ) → x * x + y * y ≡ b * a → 4 * b ≤ d * d → 4 * (x * x) ≤ d * d * a
near_core x y a b d e h = let m : (4 * b) * a ≤ (d * d) * a = mul-le (4 * b) a (d * d) a h (omega arith) in omega (arith, m, e)

squares : (v w : Vector) → nat_abs (cross v w) * nat_abs (cross v w) + nat_abs (dot v w) * nat_abs (dot v w) ≡ size w * size v
squares v w =
    let c = cross_is v w in
    let p = square_is (cross v w) in
    let q = square_is (dot v w) in
    let e : cross v w *ℤ cross v w +ℤ dot v w *ℤ dot v w ≡ pos (size w) *ℤ pos (size v) = c ∙ ap₂ ◌*ℤ◌ (size_is w) (size_is v) in
    omega (arith, ints)

-- the cross product with the way from the other end is the same
cross_way : (r : ℤ) (v w : Vector) → cross v (way (scaled r v) w) ≡ cross v w
cross_way r v w =
    let a = mul-sub_z v.x w.y (r *ℤ v.y) in
    let b = mul-sub_z v.y w.x (r *ℤ v.x) in
    let c = mul_left_comm_z v.x r v.y in
    let d = mul_left_comm_z v.y r v.x in
    let e = ap (λ (z : ℤ). r *ℤ z) (mul_comm_z v.x v.y) in
    omega (arith, ints, a, b, c, d, e)

small : (w : Vector) (d : ℕ) → int_le (pos 4 *ℤ dot w w) (pos (d * d)) ≡ true → 4 * size w ≤ d * d
small w d h = let s = size_is w in let k : int_le (pos 4 *ℤ pos (size w)) (pos (d * d)) ≡ true = rw s at h in omega (arith, ints)

inside : (v w : Vector) (r d : ℕ) → gap_met_unscaled v w r d ≡ true → 4 * (nat_abs (cross v w) * nat_abs (cross v w)) ≤ d * d * size v
inside v w r d h = elim (cases_Bool (int_le (dot v w) (pos 0))) [
  | inl e ↦ near_core (nat_abs (cross v w)) (nat_abs (dot v w)) (size v) (size w) d (squares v w) (small w d (rw e at h))
  | inr e ↦ elim (cases_Bool (int_le (pos r *ℤ dot v v) (dot v w))) [
    | inl f ↦ (let u = way (scaled (pos r) v) w in
        let n = near_core (nat_abs (cross v u)) (nat_abs (dot v u)) (size v) (size u) d (squares v u) (small u d (rw (e, f) at h)) in
        let m = ap nat_abs (cross_way (pos r) v w) in
        let k = ap (λ (z : ℕ). 4 * (z * z)) m in
        omega (arith, n, k))
    | inr f ↦ (let k : int_le (pos 4 *ℤ (cross v w *ℤ cross v w)) (pos (d * d) *ℤ dot v v) ≡ true = rw (e, f) at h in
        let p = square_is (cross v w) in
        let r = size_is v in
        let l : int_le (pos 4 *ℤ pos (nat_abs (cross v w) * nat_abs (cross v w))) (pos (d * d) *ℤ pos (size v)) ≡ true = rw (p, r) at k in
        omega (arith, ints))
  ]
]

-- where the gap is met, the place is as near to the endless line
beside_line : (v w : Vector) (r d l : ℕ) → gap_met_unscaled v w r d ≡ true → dot v v ≤ℤ pos (l * l) → 2 * nat_abs (cross v w) ≤ d * l
beside_line v w r d l h k =
    let i = inside v w r d h in
    let s = size_is v in
    let b : size v ≤ l * l = omega (arith, ints, k, s) in
    let m : d * d * size v ≤ d * d * (l * l) = mul-le-mul_left (d * d) b in
    let c = nat_abs (cross v w) in
    roots (2 * nat_abs (cross v w)) (d * l) (omega (arith, i, m))

-- twice the cross product, some columns on
pub cross_on : (v w u : Vector) (i : ℕ) → u.x ≡ w.x +ℤ pos (16256 * i) → u.y ≡ w.y → pos 2 *ℤ cross v u ≡ pos 2 *ℤ cross v w -ℤ pos (32512 * i) *ℤ v.y
cross_on v w u i e f =
    let a = ap (λ (z : ℤ). v.y *ℤ z) e in
    let b = ap (λ (z : ℤ). v.x *ℤ z) f in
    let c = mul-add_z v.y w.x (pos (16256 * i)) in
    omega (arith, ints, a, b, c)

met_is_beside : (t : Trace) (start : Vector) (i l : ℕ) → 0 < t.dots.resolution → is_met t start i ≡ true → dot t.course t.course ≤ℤ pos (l * l)
    → nat_abs (pos 2 *ℤ cross t.course start -ℤ pos (32512 * i) *ℤ t.course.y) ≤ drawn_width t.stroke.now.width t.dots.resolution * l
met_is_beside t start i l some met enough =
    let d = drawn_width t.stroke.now.width t.dots.resolution in
    let u = rightward start i in
    let m : gap_met_unscaled t.course u t.dots.resolution d ≡ true = sym (gap_met-scaled t.dots.resolution d t.course u some) ∙ met in
    let b = beside_line t.course u t.dots.resolution d l m enough in
    let o = cross_on t.course start u i refl refl in
    let z : nat_abs (pos 2 *ℤ cross t.course u) ≤ d * l = omega (arith, ints, b) in
    rw o at z

-- a turned number against the multiples of a size
turn_core : (y b : ℤ) (i m : ℕ) → nat_abs (b -ℤ pos (32512 * i) *ℤ y) ≤ m
    → (((pos (i * (32512 * nat_abs y)) -ℤ cond (int_le (pos 0) y) b (neg_ℤ b)) ≤ℤ pos m) × ((cond (int_le (pos 0) y) b (neg_ℤ b) -ℤ pos (i * (32512 * nat_abs y))) ≤ℤ pos m))
turn_core (pos n) b i m h =
    let e : int_le (pos 0) (pos n) ≡ true = sym (omega (arith, ints)) in
    rw e (omega (arith, ints, h), omega (arith, ints, h))
turn_core (negsuc n) b i m h = (omega (arith, ints, h), omega (arith, ints, h))

-- the numbers of a strip's code
pub record Strip (t : Trace) (start : Vector) (k : ℤ) : Type 0 where
  pub some : 0 < t.dots.resolution
  pub slope : IsSlope t.course (drawn_width t.stroke.now.width t.dots.resolution) t.slope
  pub turned : k ≡ cond (int_le (pos 0) t.course.y) (pos 2 *ℤ cross t.course start) (neg_ℤ (pos 2 *ℤ cross t.course start))

sides : (t : Trace) (start : Vector) (k : ℤ) (i : ℕ) → Strip t start k → is_met t start i ≡ true
    → ((pos (i * t.slope.step) -ℤ k) ≤ℤ t.slope.most) × ((k -ℤ pos (i * t.slope.step)) ≤ℤ t.slope.most)
sides t start k i p c =
    let m = drawn_width t.stroke.now.width t.dots.resolution * t.slope.length in
    let step = 32512 * nat_abs t.course.y in
    let b = met_is_beside t start i t.slope.length p.some c p.slope.enough in
    let q = turn_core t.course.y (pos 2 *ℤ cross t.course start) i m b in
    let f = subst (λ (z : ℤ). ((pos (i * step) -ℤ z) ≤ℤ pos m) × ((z -ℤ pos (i * step)) ≤ℤ pos m)) (sym p.turned) q in
    let g = subst (λ (n : ℕ). ((pos (i * n) -ℤ k) ≤ℤ pos m) × ((k -ℤ pos (i * n)) ≤ℤ pos m)) (sym p.slope.step) f in
    subst (λ (z : ℤ). ((pos (i * t.slope.step) -ℤ k) ≤ℤ z) × ((k -ℤ pos (i * t.slope.step)) ≤ℤ z)) (sym p.slope.most) g

-- a pixel before or after the strip is not met
pub outside_before : (t : Trace) (start : Vector) (k : ℤ) (i : ℕ) → Strip t start k → t.slope.most <ℤ (k -ℤ pos (i * t.slope.step)) → is_met t start i ≡ false
outside_before t start k i p u = elim (cases_Bool (is_met t start i)) [
  | inl e ↦ (let q = (sides t start k i p e).1 in absurd (omega (arith, ints, q, u)))
  | inr e ↦ e
]

pub outside_after : (t : Trace) (start : Vector) (k : ℤ) (i : ℕ) → Strip t start k → t.slope.most <ℤ (pos (i * t.slope.step) -ℤ k) → is_met t start i ≡ false
outside_after t start k i p u = elim (cases_Bool (is_met t start i)) [
  | inl e ↦ (let q = (sides t start k i p e).0 in absurd (omega (arith, ints, q, u)))
  | inr e ↦ e
]

-- where the number is greater than what the columns can lead to, no pixel is met
pub far_outside : (t : Trace) (start : Vector) (k : ℤ) (i : ℕ) → Strip t start k → nat_abs t.course.y ≤ 2 ^ 28 → nat_abs t.slope.most ≤ 2 ^ 54 → i < 2 ^ 20
    → 2 ^ 63 - 2 ^ 55 < nat_abs k → is_met t start i ≡ false
far_outside t start k i p y m l h = elim (cases_Bool (is_met t start i)) [
  | inl e ↦ (let q = sides t start k i p e in
      let s : i * t.slope.step ≤ 2 ^ 20 * (32512 * 2 ^ 28) = mul-le i t.slope.step (2 ^ 20) (32512 * 2 ^ 28) (omega (arith, l)) (omega (arith, y, p.slope.step)) in
      absurd (omega (arith, ints, q.0, q.1, s, h, m)))
  | inr e ↦ e
]

pub size_from : (z : ℤ) (n : ℕ) → lt_z z (pos 0) ≡ false → n ≡ nat_abs z → z ≡ pos n
size_from (pos m) n h e = ap pos (sym e)
size_from (negsuc m) n h e = cc h

pub size_past : (z : ℤ) (n : ℕ) → le_z z (pos 0) ≡ false → n ≡ nat_abs z → z ≡ pos n
size_past (pos m) n h e = ap pos (sym e)
size_past (negsuc m) n h e = cc h

pub size_some : (z : ℤ) (n : ℕ) → le_z z (pos 0) ≡ false → n ≡ nat_abs z → 0 < n
size_some (pos zero) n h e = cc h
size_some (pos (suc m)) n h e = omega (arith, e)
size_some (negsuc m) n h e = cc h

pub after_core : (k most : ℤ) (a v step w i n : ℕ) → 0 < w → 0 < step → w ≤ v * step → k +ℤ most ≡ pos a → min (a * v / w + 1) n ≤ i → i < n → most <ℤ (pos (i * step) -ℤ k)
after_core k most a v step w i n p q r e u l =
    let m = past_inverse a v step w i p q r (omega (arith, u, l)) in
    omega (arith, ints, m, e)

pub before_core : (k most : ℤ) (a v step w i end : ℕ) → 0 < w → v * step ≤ w → k -ℤ most ≡ pos a → 0 < a → i < min ((a - 1) * v / w + 1) end → most <ℤ (k -ℤ pos (i * step))
before_core k most a v step w i end p q e z u =
    let m = before_inverse (a - 1) v step w i p q (omega (arith, u)) in
    omega (arith, ints, m, e, z)

-- the lesser of two lengths that are at least the way's
lesser : (x y n r : ℕ) → n ≡ x * x + y * y → n ≤ r * r → n ≤ min r (x + y) * min r (x + y)
lesser x y n r e h =
    let b : n ≤ (x + y) * (x + y) = omega (arith, e) in
    elim (cases_lt r (x + y)) [
      | inl l ↦ (let m : min r (x + y) ≡ r = omega (arith, l) in rw m h)
      | inr l ↦ (let m : min r (x + y) ≡ x + y = omega (arith, l) in rw m b)
    ]

pub lesser_way : (v : Vector) (a b n r m : ℕ) → a ≡ nat_abs v.x → b ≡ nat_abs v.y → n ≡ nat_abs (dot v v) → n ≤ r * r → m ≡ min r (a + b) → dot v v ≤ℤ pos (m * m)
unfolding size
lesser_way v a b n r m ea eb en h em =
    let z = size_is v in
    let f : n ≡ nat_abs v.x * nat_abs v.x + nat_abs v.y * nat_abs v.y = en ∙ ap nat_abs z in
    let e : n ≡ a * a + b * b = f ∙ ap₂ (λ (i j : ℕ). i * i + j * j) (sym ea) (sym eb) in
    let k : n ≤ m * m = subst (λ (i : ℕ). n ≤ i * i) (sym em) (lesser a b n r e h) in
    omega (arith, ints, z, f, k)

-- the sum of the sides of a way is at least its length
pub sides_enough : (v : Vector) (a b m : ℕ) → a ≡ nat_abs v.x → b ≡ nat_abs v.y → m ≡ a + b → dot v v ≤ℤ pos (m * m)
unfolding size
sides_enough v a b m ea eb em =
    let z = size_is v in
    let e : a * a + b * b ≡ nat_abs v.x * nat_abs v.x + nat_abs v.y * nat_abs v.y = ap₂ (λ (i j : ℕ). i * i + j * j) ea eb in
    let k : a * a + b * b ≤ m * m = subst (λ (i : ℕ). a * a + b * b ≤ i * i) (sym em) (omega arith) in
    omega (arith, ints, z, e, k)
