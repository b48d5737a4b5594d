-- In a row far from both ends of a stroke, what lies within the strip along its line is near the stroke.
use Rattle.std.proofs.Common.{◌≡◌, ℕ, zero, suc, ◌+◌, ◌*◌, ◌<◌, ◌≤◌, refl, sym, ap, ap₂, ◌∙◌, arith, ℤ, pos, negsuc, ◌+ℤ◌, ◌*ℤ◌, ◌<ℤ◌, neg_ℤ, nat_abs, true, false, int_le, cond}
use Rattle.std.proofs.lemmas.Int.{ints, unsigned_abs-mul}
use Rattle.std.proofs.lemmas.Nat.{mul-le}
use Rattle.std.proofs.Math.Nat.{mul-le-mul_left, lt_of_mul-lt-mul_left}
use Rattle.exact.proofs.Ring.{mul_assoc_z, mul-add_z, mul-sub_z, add-mul_z, mul_left_comm_z, mul-neg_z, neg-mul_z, square_is}
use Rattle.stroke_raster.specs.declared.vector.Vector.{Vector}
use Rattle.stroke_raster.specs.Gap.{dot, cross}
use Rattle.stroke_raster.proofs.BoxLemmas.{roots}
use Rattle.stroke_raster.proofs.GapLemmas.{size, size_is}
use Rattle.stroke_raster.proofs.Scaling.{gap_met_unscaled}

-- a place is past the first end and before the other: z is the dot product, h its height and y that of the course, a the
-- course's squared length
past_core : (z w : ℤ) (y a h d : ℕ) → pos (2 * y) *ℤ z ≡ pos (2 * (a * h)) +ℤ w → nat_abs w ≤ d * a → d < 2 * h → 0 < a → pos 0 <ℤ z
past_core (negsuc n) w y a h d e s u p =
    let q : a * (d + 1) ≤ a * (2 * h) = mul-le-mul_left a (omega (arith, u)) in
    absurd (omega (arith, ints, e, s, q, p))
past_core (pos zero) w y a h d e s u p =
    let q : a * (d + 1) ≤ a * (2 * h) = mul-le-mul_left a (omega (arith, u)) in
    absurd (omega (arith, ints, e, s, q, p))
past_core (pos (suc n)) w y a h d e s u p = omega (arith, ints)

before_core : (z w : ℤ) (y a h d r : ℕ) → pos (2 * y) *ℤ z ≡ pos (2 * (a * h)) +ℤ w → nat_abs w ≤ d * a → 2 * h + d < 2 * (r * y) → 0 < a → z <ℤ pos (r * a)
before_core (negsuc n) w y a h d r e s u p = omega (arith, ints)
before_core (pos n) w y a h d r e s u p =
    let q : a * (2 * h + d + 1) ≤ a * (2 * (r * y)) = mul-le-mul_left a (omega (arith, u)) in
    let k : (2 * y) * n < (2 * y) * (r * a) = omega (arith, ints, e, s, q, p) in
    let l : n < r * a = lt_of_mul-lt-mul_left (2 * y) k in
    omega (arith, ints, l)

-- a place's height by its dot and cross products
height : (v w : Vector) → v.y *ℤ dot v w +ℤ v.x *ℤ cross v w ≡ dot v v *ℤ w.y
height v w =
    let a = mul-add_z v.y (v.x *ℤ w.x) (v.y *ℤ w.y) in
    let b = mul-sub_z v.x (v.x *ℤ w.y) (v.y *ℤ w.x) in
    let c = add-mul_z (v.x *ℤ v.x) (v.y *ℤ v.y) w.y in
    let d = mul_left_comm_z v.y v.x w.x in
    let e = mul_assoc_z v.x v.x w.y in
    let f = mul_assoc_z v.y v.y w.y in
    omega (arith, ints, a, b, c, d, e, f)

rising_height : (y x z c a h : ℤ) (m n k : ℕ) → y *ℤ z +ℤ x *ℤ c ≡ a *ℤ h → y ≡ pos m → a ≡ pos n → h ≡ pos k
    → pos (2 * m) *ℤ z ≡ pos (2 * (n * k)) +ℤ neg_ℤ (x *ℤ (pos 2 *ℤ c))
rising_height y x z c a h m n k e ey ea eh =
    let e' = rw (ey, ea, eh) at e in
    let o = mul_left_comm_z x (pos 2) c in
    omega (arith, ints, e', o)

falling_height : (y x z c a h : ℤ) (m n k : ℕ) → y *ℤ z +ℤ x *ℤ c ≡ a *ℤ h → y ≡ neg_ℤ (pos m) → a ≡ pos n → h ≡ neg_ℤ (pos k)
    → pos (2 * m) *ℤ z ≡ pos (2 * (n * k)) +ℤ x *ℤ (pos 2 *ℤ c)
falling_height y x z c a h m n k e ey ea eh =
    let p = ap (λ (i : ℤ). i *ℤ z) ey in
    let q = ap₂ ◌*ℤ◌ ea eh in
    let r = neg-mul_z (pos m) z in
    let s = mul-neg_z (pos n) (pos k) in
    let o = mul_left_comm_z x (pos 2) c in
    omega (arith, ints, e, p, q, r, s, o)

-- the doubled product of the course's x and the cross product
slant : (v w : Vector) (d l : ℕ) → nat_abs (pos 2 *ℤ cross v w) ≤ d * l → l * l ≤ size v → nat_abs (v.x *ℤ (pos 2 *ℤ cross v w)) ≤ d * size v
unfolding size
slant v w d l h k =
    let s = nat_abs v.x in
    let a = size v in
    let q : (nat_abs v.x * nat_abs v.x) * (l * l) ≤ size v * size v = mul-le (nat_abs v.x * nat_abs v.x) (l * l) (size v) (size v) (omega arith) k in
    let r : nat_abs v.x * l ≤ size v = roots (nat_abs v.x * l) (size v) (omega (arith, q)) in
    let m : nat_abs v.x * nat_abs (pos 2 *ℤ cross v w) ≤ nat_abs v.x * (d * l) = mul-le-mul_left (nat_abs v.x) h in
    let n : d * (nat_abs v.x * l) ≤ d * size v = mul-le-mul_left d r in
    let e = unsigned_abs-mul v.x (pos 2 *ℤ cross v w) in
    omega (arith, e, m, n)

-- the test beside the line
beside_test : (v w : Vector) (d l : ℕ) → nat_abs (pos 2 *ℤ cross v w) ≤ d * l → l * l ≤ size v → int_le (pos 4 *ℤ (cross v w *ℤ cross v w)) (pos (d * d) *ℤ dot v v) ≡ true
beside_test v w d l h k =
    let x = nat_abs (cross v w) in
    let e : nat_abs (pos 2 *ℤ cross v w) ≡ 2 * nat_abs (cross v w) = omega (arith, ints) in
    let m : (2 * nat_abs (cross v w)) * (2 * nat_abs (cross v w)) ≤ (d * l) * (d * l) = mul-le (2 * nat_abs (cross v w)) (2 * nat_abs (cross v w)) (d * l) (d * l) (omega (arith, e, h)) (omega (arith, e, h)) in
    let n : (d * d) * (l * l) ≤ (d * d) * size v = mul-le-mul_left (d * d) k in
    let o : 4 * (nat_abs (cross v w) * nat_abs (cross v w)) ≤ (d * d) * size v = omega (arith, m, n) in
    let g : int_le (pos 4 *ℤ pos (nat_abs (cross v w) * nat_abs (cross v w))) (pos (d * d) *ℤ pos (size v)) ≡ true = sym (omega (arith, ints, o)) in
    rw (square_is (cross v w), size_is v) g

-- within the strip, farther than half of d above the lower end and below the upper one: y is the course's height and h the
-- place's, both measured from the lower end to the upper
near_rising : (v w : Vector) (y h d l r : ℕ) → v.y ≡ pos y → w.y ≡ pos h → nat_abs (pos 2 *ℤ cross v w) ≤ d * l → l * l ≤ size v → 0 < size v
    → d < 2 * h → 2 * h + d < 2 * (r * y) → gap_met_unscaled v w r d ≡ true
near_rising v w y h d l r ey eh x k some above below =
    let i = height v w in
    let b = slant v w d l x k in
    let z = size_is v in
    let e = rising_height v.y v.x (dot v w) (cross v w) (dot v v) w.y y (size v) h i ey z eh in
    let s : nat_abs (neg_ℤ (v.x *ℤ (pos 2 *ℤ cross v w))) ≤ d * size v = omega (arith, ints, b) in
    let p = past_core (dot v w) (neg_ℤ (v.x *ℤ (pos 2 *ℤ cross v w))) y (size v) h d e s above some in
    let q = before_core (dot v w) (neg_ℤ (v.x *ℤ (pos 2 *ℤ cross v w))) y (size v) h d r e s below some in
    let f : int_le (dot v w) (pos 0) ≡ false = sym (omega (arith, ints, p)) in
    let g : int_le (pos r *ℤ dot v v) (dot v w) ≡ false = (let q' : int_le (pos r *ℤ pos (size v)) (dot v w) ≡ false = sym (omega (arith, ints, q)) in rw z q') in
    rw (f, g) (beside_test v w d l x k)

near_falling : (v w : Vector) (y h d l r : ℕ) → v.y ≡ neg_ℤ (pos y) → w.y ≡ neg_ℤ (pos h) → nat_abs (pos 2 *ℤ cross v w) ≤ d * l → l * l ≤ size v → 0 < size v
    → d < 2 * h → 2 * h + d < 2 * (r * y) → gap_met_unscaled v w r d ≡ true
near_falling v w y h d l r ey eh x k some above below =
    let i = height v w in
    let b = slant v w d l x k in
    let z = size_is v in
    let e = falling_height v.y v.x (dot v w) (cross v w) (dot v v) w.y y (size v) h i ey z eh in
    let p = past_core (dot v w) (v.x *ℤ (pos 2 *ℤ cross v w)) y (size v) h d e b above some in
    let q = before_core (dot v w) (v.x *ℤ (pos 2 *ℤ cross v w)) y (size v) h d r e b below some in
    let f : int_le (dot v w) (pos 0) ≡ false = sym (omega (arith, ints, p)) in
    let g : int_le (pos r *ℤ dot v v) (dot v w) ≡ false = (let q' : int_le (pos r *ℤ pos (size v)) (dot v w) ≡ false = sym (omega (arith, ints, q)) in rw z q') in
    rw (f, g) (beside_test v w d l x k)

-- the same of a course that rises or falls
pub near_beside_ends : (v w : Vector) (d l r : ℕ) → nat_abs (pos 2 *ℤ cross v w) ≤ d * l → l * l ≤ size v → 0 < size v
    → pos d <ℤ (pos 2 *ℤ cond (int_le (pos 0) v.y) w.y (neg_ℤ w.y)) → (pos 2 *ℤ cond (int_le (pos 0) v.y) w.y (neg_ℤ w.y) +ℤ pos d) <ℤ pos (2 * (r * nat_abs v.y))
    → gap_met_unscaled v w r d ≡ true
near_beside_ends v w d l r x k some above below = by_sign v.y refl
  where
    by_sign : (y : ℤ) → v.y ≡ y → gap_met_unscaled v w r d ≡ true
    by_sign (pos n) e =
        let t : int_le (pos 0) (pos n) ≡ true = sym (omega (arith, ints)) in
        let a : pos d <ℤ (pos 2 *ℤ w.y) = rw (e, t) at above in
        let b : (pos 2 *ℤ w.y +ℤ pos d) <ℤ pos (2 * (r * n)) = rw (e, t) at below in
        let h : w.y ≡ pos (nat_abs w.y) = omega (arith, ints, a) in
        near_rising v w n (nat_abs w.y) d l r e h x k some (omega (arith, ints, a)) (omega (arith, ints, a, b))
    by_sign (negsuc n) e =
        let a : pos d <ℤ (pos 2 *ℤ neg_ℤ w.y) = rw e at above in
        let b : (pos 2 *ℤ neg_ℤ w.y +ℤ pos d) <ℤ pos (2 * (r * suc n)) = rw e at below in
        let h : w.y ≡ neg_ℤ (pos (nat_abs w.y)) = omega (arith, ints, a) in
        near_falling v w (suc n) (nat_abs w.y) d l r (e ∙ refl) h x k some (omega (arith, ints, a)) (omega (arith, ints, a, b))
