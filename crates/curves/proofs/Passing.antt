-- An arc goes round by its second place.
use Rattle.std.proofs.Common.{◌≡◌, ℕ, zero, suc, ◌+◌, ◌-◌, ◌*◌, ◌^◌, ◌<◌, ◌≤◌, Bool, true, false, true≢false, inl, inr, refl, sym, ap, ◌∙◌, arith, List, [], ◌∷◌}
use Rattle.std.proofs.Common.{ℤ, pos, negsuc, neg_ℤ, nat_abs, int_le, int_lt, int_eq, ◌+ℤ◌, ◌-ℤ◌, ◌*ℤ◌, ◌≤ℤ◌, ◌<ℤ◌}
use Rattle.std.specs.List.{All}
use Rattle.std.proofs.lemmas.Bool.{cases_Bool, cases_lt}
use Rattle.std.proofs.lemmas.Bool.Decides.{Decides-int_eq}
use Rattle.std.proofs.lemmas.Int.{ints, unsigned_abs-mul}
use Rattle.std.proofs.lemmas.List.Elements.{All-append, All-cons, All-nil, All-head, All-tail}
use Rattle.std.proofs.lemmas.Nat.{mul-le}
use Rattle.std.proofs.Math.Nat.{mul-le-mul_left}
use Rattle.exact.specs.Fraction.{round, quotient}
use Rattle.exact.specs.Spots.{is_same_spot}
use Rattle.exact.specs.declared.spot.Spot.{Spot}
use Rattle.exact.proofs.Ring.{mul-add_z, mul_assoc_z, mul_comm_z, mul_left_comm_z, mul-sub_z, mul-neg_z, neg-mul_z}
use Rattle.exact.proofs.Rounding.{le_scale, le_unscale, lt_scale}
use Rattle.directions.specs.Bounds.{IsWithin}
use Rattle.directions.specs.Directions.{square_of}
use Rattle.curves.specs.Arcs.{between, middle, centre_of, circle_by, whole_circle}
use Rattle.curves.specs.Bounds.{IsNotZero}
use Rattle.curves.specs.Laws.{ArcsPassTheirMiddle, IsBeside, IsBent}
use Rattle.curves.specs.Vectors.{way, dot, cross, turned_against, unit_of}
use Rattle.curves.specs.declared.circle.Circle.{Circle}
use Rattle.curves.proofs.Aboves.{above_from_test, lt_from_test, le_from_test, spots_apart}
use Rattle.curves.proofs.Alongs.{HasLength, IsDirection, root_le, rounded_near, unit_of_along}
use Rattle.curves.proofs.Centres.{centre_above}
use Rattle.curves.proofs.Sides.{OnSide, spread, dot_near, step_on, dot-way, dot_comm, spread_most, enough, chain, unscaled}
use Rattle.curves.proofs.VectorLemmas.{cross_above, dot_self, square_above, turned_above, turned_within, way_above}

-- turned vectors
turned_dot : (clockwise : Bool) (a b : Spot) → dot (turned_against clockwise a) (turned_against clockwise b) ≡ dot a b
turned_dot true a b =
    let e = neg-mul_z a.y (neg_ℤ b.y) in
    let f = mul-neg_z a.y b.y in
    omega (arith, ints, e, f)
turned_dot false a b =
    let e = neg-mul_z a.x (neg_ℤ b.x) in
    let f = mul-neg_z a.x b.x in
    omega (arith, ints, e, f)

turned_swap : (clockwise : Bool) (a b : Spot) → dot (turned_against clockwise a) b ≡ neg_ℤ (dot (turned_against clockwise b) a)
turned_swap true a b =
    let e = neg-mul_z a.y b.x in
    let f = neg-mul_z b.y a.x in
    let g = mul_comm_z a.y b.x in
    let h = mul_comm_z b.y a.x in
    omega (arith, ints, e, f, g, h)
turned_swap false a b =
    let e = neg-mul_z a.x b.y in
    let f = neg-mul_z b.x a.y in
    let g = mul_comm_z a.x b.y in
    let h = mul_comm_z b.x a.y in
    omega (arith, ints, e, f, g, h)

no_more : (z : ℤ) → z ≡ neg_ℤ z → z ≡ pos 0
no_more z e = omega (arith, ints, e)

turned_self : (clockwise : Bool) (a : Spot) → dot (turned_against clockwise a) a ≡ pos 0
turned_self clockwise a = no_more (dot (turned_against clockwise a) a) (turned_swap clockwise a a)

negative_size : (z : ℤ) → nat_abs (neg_ℤ z) ≡ nat_abs z
negative_size z = omega (arith, ints)

turned_spread : (clockwise : Bool) (a : Spot) → spread (turned_against clockwise a) ≡ spread a
turned_spread true a = rw (negative_size a.y) (omega arith)
turned_spread false a = rw (negative_size a.x) (omega arith)

turned_square : (clockwise : Bool) (a : Spot) → square_of (turned_against clockwise a) ≡ square_of a
turned_square true a = rw (negative_size a.y) (omega arith)
turned_square false a = rw (negative_size a.x) (omega arith)

-- the way to the centre, and the chord
quotient_near : (a k : ℤ) → 0 < nat_abs k → 2 * nat_abs (k *ℤ round (quotient a k) -ℤ a) ≤ nat_abs k
quotient_near a (pos k) h = rounded_near k a h
quotient_near a (negsuc n) h =
    let z : ℤ = round (quotient (neg_ℤ a) (pos (suc n))) in
    let m = rounded_near (suc n) (neg_ℤ a) (omega arith) in
    let e : negsuc n *ℤ z ≡ neg_ℤ (pos (suc n) *ℤ z) = neg-mul_z (pos (suc n)) z in
    omega (arith, ints, m, e)

part_off : (c k v y : ℤ) (m : ℕ) → nat_abs (k *ℤ v -ℤ y) ≤ m → nat_abs (k *ℤ (c *ℤ v) -ℤ c *ℤ y) ≤ nat_abs c * m
part_off c k v y m h =
    let f = mul-sub_z c (k *ℤ v) y in
    let g = mul_left_comm_z c k v in
    let s : nat_abs (c *ℤ (k *ℤ v -ℤ y)) ≡ nat_abs c * nat_abs (k *ℤ v -ℤ y) = unsigned_abs-mul c (k *ℤ v -ℤ y) in
    let t : nat_abs c * nat_abs (k *ℤ v -ℤ y) ≤ nat_abs c * m = mul-le-mul_left (nat_abs c) h in
    let u : k *ℤ (c *ℤ v) -ℤ c *ℤ y ≡ c *ℤ (k *ℤ v -ℤ y) = omega (arith, ints, f, g) in
    rw u (omega (arith, s, t))

chord_is : (k l bx by cx cy : ℤ) → cx *ℤ (k *ℤ cy -ℤ l *ℤ by) +ℤ cy *ℤ (l *ℤ bx -ℤ k *ℤ cx) ≡ l *ℤ (bx *ℤ cy -ℤ by *ℤ cx)
chord_is k l bx by cx cy =
    let a = mul-sub_z cx (k *ℤ cy) (l *ℤ by) in
    let b = mul-sub_z cy (l *ℤ bx) (k *ℤ cx) in
    let c = mul-sub_z l (bx *ℤ cy) (by *ℤ cx) in
    let d = mul_left_comm_z cx k cy in
    let e = mul_left_comm_z cx l by ∙ ap (λ (z : ℤ). l *ℤ z) (mul_comm_z cx by) in
    let f = mul_left_comm_z cy l bx ∙ ap (λ (z : ℤ). l *ℤ z) (mul_comm_z cy bx) in
    let g = mul_left_comm_z cy k cx ∙ ap (λ (z : ℤ). k *ℤ z) (mul_comm_z cy cx) in
    omega (arith, ints, a, b, c, d, e, f, g)

cancelled_by : (x z c : ℕ) → 0 < x → x * z ≤ x * c → z ≤ c
cancelled_by x z c h k = elim (cases_lt c z) [
  | inl l ↦ (let m : x * (c + 1) ≤ x * z = mul-le-mul_left x (omega arith) in absurd (omega (arith, m, k, h)))
  | inr l ↦ l
]

at_most_square : (v : ℕ) → v ≤ v * v
at_most_square zero = omega arith
at_most_square (suc v) = omega arith

-- twice the cross product times what is left over of the dot product
left_over : (x d e : ℤ) (s : ℕ) → nat_abs ((pos 2 *ℤ x) *ℤ d -ℤ pos 256 *ℤ (e *ℤ x)) ≤ s * nat_abs x → 0 < nat_abs x → nat_abs (pos 2 *ℤ d -ℤ pos 256 *ℤ e) ≤ s
left_over x d e s h k =
    let z : ℤ = pos 2 *ℤ d -ℤ pos 256 *ℤ e in
    let a = mul-sub_z x (pos 2 *ℤ d) (pos 256 *ℤ e) in
    let b = mul_left_comm_z x (pos 2) d in
    let c = mul_left_comm_z x (pos 256) e in
    let f = mul_comm_z x e in
    let g = mul_assoc_z (pos 2) x d in
    let same : (pos 2 *ℤ x) *ℤ d -ℤ pos 256 *ℤ (e *ℤ x) ≡ x *ℤ z = omega (arith, ints, a, b, c, f, g) in
    let m : nat_abs (x *ℤ z) ≡ nat_abs x * nat_abs z = unsigned_abs-mul x z in
    let n = rw same at h in
    cancelled_by (nat_abs x) (nat_abs z) s k (omega (arith, m, n))

sum_off : (x y v w : ℤ) (m n : ℕ) → nat_abs (x -ℤ v) ≤ m → nat_abs (y -ℤ w) ≤ n → nat_abs ((x +ℤ y) -ℤ (v +ℤ w)) ≤ m + n
sum_off x y v w m n h k = omega (arith, ints, h, k)

twice_size : (x : ℤ) → nat_abs (pos 2 *ℤ x) ≡ 2 * nat_abs x
twice_size x = unsigned_abs-mul (pos 2) x

factored : (m n k x : ℕ) → x ≤ m * k + n * k → x ≤ (m + n) * k
factored m n k x h = omega (arith, h)

is_along : (d : ℤ) (x y : ℕ) → nat_abs (pos 2 *ℤ d -ℤ pos 256 *ℤ pos (x * x + y * y)) ≤ x + y → pos (127 * (x * x + y * y)) ≤ℤ d
is_along d x y h =
    let p = at_most_square x in
    let q = at_most_square y in
    omega (arith, ints, h, p, q)

centre_by : (b c v : Spot) (x y : ℤ) → 0 < nat_abs (cross b c)
    → x ≡ pos (square_of b) *ℤ c.y -ℤ pos (square_of c) *ℤ b.y → y ≡ pos (square_of c) *ℤ b.x -ℤ pos (square_of b) *ℤ c.x
    → 2 * nat_abs ((pos 2 *ℤ cross b c) *ℤ v.x -ℤ pos 256 *ℤ x) ≤ nat_abs (pos 2 *ℤ cross b c)
    → 2 * nat_abs ((pos 2 *ℤ cross b c) *ℤ v.y -ℤ pos 256 *ℤ y) ≤ nat_abs (pos 2 *ℤ cross b c)
    → nat_abs (pos 2 *ℤ dot c v -ℤ pos 256 *ℤ pos (square_of c)) ≤ spread c
centre_by b c v x y h e f p q =
    let z : ℤ = cross b c in
    let k : ℤ = pos 2 *ℤ z in
    let two = twice_size z in
    let r = part_off c.x k v.x (pos 256 *ℤ x) (nat_abs z) (omega (arith, two, p)) in
    let s = part_off c.y k v.y (pos 256 *ℤ y) (nat_abs z) (omega (arith, two, q)) in
    let t = sum_off (k *ℤ (c.x *ℤ v.x)) (k *ℤ (c.y *ℤ v.y)) (c.x *ℤ (pos 256 *ℤ x)) (c.y *ℤ (pos 256 *ℤ y)) (nat_abs c.x * nat_abs z) (nat_abs c.y * nat_abs z) r s in
    let a : k *ℤ dot c v ≡ k *ℤ (c.x *ℤ v.x) +ℤ k *ℤ (c.y *ℤ v.y) = mul-add_z k (c.x *ℤ v.x) (c.y *ℤ v.y) in
    let g : c.x *ℤ x +ℤ c.y *ℤ y ≡ pos (square_of c) *ℤ z = rw (e, f) (chord_is (pos (square_of b)) (pos (square_of c)) b.x b.y c.x c.y) in
    let i = mul_left_comm_z c.x (pos 256) x in
    let j = mul_left_comm_z c.y (pos 256) y in
    let u : c.x *ℤ (pos 256 *ℤ x) +ℤ c.y *ℤ (pos 256 *ℤ y) ≡ pos 256 *ℤ (pos (square_of c) *ℤ z) = omega (arith, ints, g, i, j) in
    let w = rw u at t in
    left_over z (dot c v) (pos (square_of c)) (spread c) (rw a (factored (nat_abs c.x) (nat_abs c.y) (nat_abs z) _ w)) h

pub centre_along : (b c : Spot) → 0 < nat_abs (cross b c) → pos (127 * square_of c) ≤ℤ dot c (centre_of b c)
centre_along b c h =
    let k : ℤ = pos 2 *ℤ cross b c in
    let x : ℤ = pos (square_of b) *ℤ c.y -ℤ pos (square_of c) *ℤ b.y in
    let y : ℤ = pos (square_of c) *ℤ b.x -ℤ pos (square_of b) *ℤ c.x in
    let above : 0 < nat_abs k = rw (twice_size (cross b c)) (omega (arith, h)) in
    let m = centre_by b c (centre_of b c) x y h refl refl (quotient_near (pos 256 *ℤ x) k above) (quotient_near (pos 256 *ℤ y) k above) in
    is_along (dot c (centre_of b c)) (nat_abs c.x) (nat_abs c.y) m

-- the product of a vector's length and another one's spread
squares_in : (x y d : ℕ) → x + d ≡ y → (x + y) * (x + y) ≤ 2 * (x * x + y * y)
squares_in x y d e = rw (← e) (omega arith)

squares_sum : (x y : ℕ) → (x + y) * (x + y) ≤ 2 * (x * x + y * y)
squares_sum x y = elim (cases_lt x y) [
  | inl l ↦ squares_in x y (y - x) (omega (arith, l))
  | inr l ↦ (let m = squares_in y x (x - y) (omega (arith, l)) in omega (arith, m))
]

spread_square : (r : Spot) → spread r * spread r ≤ 2 * square_of r
spread_square r = squares_sum (nat_abs r.x) (nat_abs r.y)

area_lem : (l r s t m : ℕ) → 8 * (l * l) ≤ 9 * (2 ^ 64 * s) → r * r ≤ 2 * t → t * s ≤ 2 ^ 46 * (m * m) → l * r ≤ 3 * 2 ^ 54 * m
area_lem l r s t m h k e =
    let a : 8 * (l * l) * (r * r) ≤ 9 * (2 ^ 64 * s) * (2 * t) = mul-le (8 * (l * l)) (r * r) (9 * (2 ^ 64 * s)) (2 * t) h k in
    root_le (l * r) (3 * 2 ^ 54 * m) (omega (arith, a, e))

toward_lem : (l r m : ℕ) (x y : ℤ) → l * r ≤ 3 * 2 ^ 54 * m → nat_abs (pos l *ℤ x -ℤ pos (2 ^ 62) *ℤ y) ≤ 2 * (l * r) → pos (127 * m) ≤ℤ y
    → pos (l * (4370 * r)) ≤ℤ (pos l *ℤ x)
toward_lem l r m x y h k e = omega (arith, ints, h, k, e)

-- a direction is far on the side of a line on which its vector is
toward : (r s d : Spot) (m : ℕ) → HasLength s d → pos (127 * m) ≤ℤ dot r s → square_of r * square_of s ≤ 2 ^ 46 * (m * m)
    → pos (4370 * spread r) ≤ℤ dot r d
toward r s d m h k e =
    let l : ℕ = h.l in
    let a = area_lem l (spread r) (square_of s) (square_of r) m h.along.short (spread_square r) e in
    unscaled l (4370 * spread r) (dot r d) h.along.above (toward_lem l (spread r) m (dot r d) (dot r s) a (dot_near r s d l h.along) k)

-- or not far on the other side, if its vector is on the line
small_lem : (l r : ℕ) (x : ℤ) → nat_abs (pos l *ℤ x -ℤ pos (2 ^ 62) *ℤ pos 0) ≤ 2 * (l * r) → (pos l *ℤ neg_ℤ (pos (2 * r))) ≤ℤ (pos l *ℤ x)
small_lem l r x h = let e = mul-neg_z (pos l) (pos (2 * r)) in omega (arith, ints, e, h)

small : (r s d : Spot) → HasLength s d → dot r s ≡ pos 0 → neg_ℤ (pos (2 * spread r)) ≤ℤ dot r d
small r s d h e =
    let l : ℕ = h.l in
    let n = rw e at (dot_near r s d l h.along) in
    le_unscale l (neg_ℤ (pos (2 * spread r))) (dot r d) h.along.above (small_lem l (spread r) (dot r d) n)

-- two directions that are more than 90 degrees apart
chord_lem : (l r s : ℕ) → 8 * (l * l) ≤ 9 * (2 ^ 64 * s) → r * r ≤ 2 * s → l * r ≤ 3 * 2 ^ 31 * s
chord_lem l r s h k =
    let a : 8 * (l * l) * (r * r) ≤ 9 * (2 ^ 64 * s) * (2 * s) = mul-le (8 * (l * l)) (r * r) (9 * (2 ^ 64 * s)) (2 * s) h k in
    root_le (l * r) (3 * 2 ^ 31 * s) (omega (arith, a))

behind_lem : (l t : ℕ) (x y : ℤ) → t ≤ 2 ^ 31 → x <ℤ pos 0 → nat_abs (pos l *ℤ x -ℤ pos (2 ^ 62) *ℤ y) ≤ 2 * (l * t) → (pos (2 ^ 30) *ℤ y) ≤ℤ pos l
behind_lem l t x y h k e =
    let a : (pos l *ℤ x) ≤ℤ (pos l *ℤ pos 0) = le_scale l x (pos 0) (omega (arith, ints, k)) in
    let b : l * t ≤ l * 2 ^ 31 = mul-le-mul_left l h in
    omega (arith, ints, a, b, e)

apart_lem : (l r s : ℕ) (x y : ℤ) → 8 * (l * l) ≤ 9 * (2 ^ 64 * s) → l * r ≤ 3 * 2 ^ 31 * s
    → nat_abs (pos l *ℤ x -ℤ pos (2 ^ 62) *ℤ pos s) ≤ 2 * (l * r) → (pos (2 ^ 30) *ℤ y) ≤ℤ pos l
    → pos (l * (4400 * r)) ≤ℤ (pos l *ℤ (x -ℤ y))
apart_lem l r s x y h k e f =
    let a : (pos l *ℤ (pos (2 ^ 30) *ℤ y)) ≤ℤ (pos l *ℤ pos l) = le_scale l (pos (2 ^ 30) *ℤ y) (pos l) f in
    let b = mul_left_comm_z (pos l) (pos (2 ^ 30)) y in
    let c = mul-sub_z (pos l) x y in
    omega (arith, ints, a, b, c, h, k, e)

apart : (c q p : Spot) → HasLength c q → dot p q <ℤ pos 0 → IsDirection p → pos (4400 * spread c) ≤ℤ (dot c q -ℤ dot c p)
apart c q p h k i =
    let l : ℕ = h.l in
    let a = rw (dot_self c) at (dot_near c c q l h.along) in
    let b = behind_lem l (spread p) (dot p q) (dot p c) (spread_most p i) k (dot_near p c q l h.along) in
    let d = rw (dot_comm p c) at b in
    let e = chord_lem l (spread c) (square_of c) h.along.short (spread_square c) in
    unscaled l (4400 * spread c) (dot c q -ℤ dot c p) h.along.above (apart_lem l (spread c) (square_of c) (dot c q) (dot c p) h.along.short e a d)

-- how far the first and the last direction are turned from each other
turn_lem : (l s t : ℕ) (x y : ℤ) → l ≤ 2 ^ 33 * s → t ≤ 2 ^ 31 → nat_abs (pos l *ℤ x -ℤ pos (2 ^ 62) *ℤ y) ≤ 2 * (l * t) → pos (4370 * s) ≤ℤ neg_ℤ y
    → pos (l * 2 ^ 40) ≤ℤ (pos l *ℤ neg_ℤ x)
turn_lem l s t x y h k e f =
    let a : l * t ≤ l * 2 ^ 31 = mul-le-mul_left l k in
    let b = mul-neg_z (pos l) x in
    omega (arith, ints, a, b, h, e, f)

length_short : (l s r : ℕ) → 8 * (l * l) ≤ 9 * (2 ^ 64 * s) → s ≤ r * r → l ≤ 2 ^ 33 * r
length_short l s r h k = root_le l (2 ^ 33 * r) (omega (arith, h, k))

is_turned : (clockwise : Bool) (c p q : Spot) → HasLength c q → IsDirection p → pos (4370 * spread c) ≤ℤ dot (turned_against clockwise c) p
    → pos (2 ^ 40) ≤ℤ dot (turned_against clockwise q) p
is_turned clockwise c p q h i k =
    let t : Spot = turned_against clockwise p in
    let l : ℕ = h.l in
    let e = turned_swap clockwise c p in
    let f = turned_swap clockwise q p in
    let g = turned_spread clockwise p in
    let n = dot_near t c q l h.along in
    let m = length_short l (square_of c) (spread c) h.along.short (omega arith) in
    let s = spread_most p i in
    let o : pos (2 ^ 40) ≤ℤ neg_ℤ (dot t q) =
    unscaled l (2 ^ 40) (neg_ℤ (dot t q)) h.along.above
    (turn_lem l (spread c) (spread t) (dot t q) (dot t c) m (rw g s) n (rw e at k)) in
    rw f o

-- the middle of two directions more than 90 degrees apart
wide_middle : (clockwise : Bool) (p q : Spot) → int_le (pos 0) (dot p q) ≡ false → middle clockwise p q ≡ unit_of (turned_against clockwise (way p q))
unfolding middle
wide_middle clockwise p q e = rw e refl

way_within : (p q : Spot) → IsWithin (2 ^ 30) p → IsWithin (2 ^ 30) q → IsWithin (2 ^ 31) (way p q)
way_within p q h k =
    let a = h.x_in in
    let b = h.y_in in
    let c = k.x_in in
    let d = k.y_in in
    record { x_in = omega (arith, ints, a, c); y_in = omega (arith, ints, b, d) }

-- both ways from the middle on
record AreHalves (p q m : Spot) : Type 0 where
  first : pos 0 ≤ℤ dot p m
  last : pos 0 ≤ℤ dot m q

both_ways : (k : ℕ) (clockwise : Bool) (r p q m : Spot) → middle clockwise p q ≡ m → 0 < spread r → IsDirection p → IsDirection q → IsDirection m → AreHalves p q m
    → neg_ℤ (pos (2 * spread r)) ≤ℤ dot r p → neg_ℤ (pos (2 * spread r)) ≤ℤ dot r q → pos ((enough k + 2) * spread r) ≤ℤ dot r m
    → All (OnSide r) (between clockwise (suc k) p q)
unfolding between
both_ways k clockwise r p q m same a h l i halves f g j =
    let s : ℕ = spread r in
    let above : pos 0 <ℤ dot r m = omega (arith, ints, j, a) in
    let not_far : neg_ℤ (pos (2 * s)) ≤ℤ dot r m = omega (arith, ints, j) in
    rw same (All-append (OnSide r) (between clockwise k p m) (m ∷ between clockwise k m q)
    (chain k clockwise r p m a h i halves.first f not_far (omega (arith, ints, j, f)))
    (All-cons (OnSide r) m (between clockwise k m q) above
    (chain k clockwise r m q a i l halves.last not_far g (omega (arith, ints, j, g)))))

-- what holds of an arc's first and last direction; u is at a right angle to the way v to the centre
record AreEnds (clockwise : Bool) (v c p q : Spot) : Type 0 where
  first : HasLength (turned_against clockwise v) p
  last : HasLength c q
  near : pos (127 * square_of c) ≤ℤ dot c v
  bent : square_of v ≤ 2 ^ 46 * square_of c
  v_above : 0 < spread v
  c_above : 0 < spread c

-- p is beside the line to the end
first_beside : (clockwise : Bool) (v c p q : Spot) → AreEnds clockwise v c p q → pos (4370 * spread c) ≤ℤ dot (turned_against clockwise c) p
first_beside clockwise v c p q h =
    let e = turned_spread clockwise c in
    let b = h.bent in
    let m : square_of c * square_of v ≤ square_of c * (2 ^ 46 * square_of c) = mul-le-mul_left (square_of c) b in
    let a = toward (turned_against clockwise c) (turned_against clockwise v) p (square_of c) h.first (rw (turned_dot clockwise c v) h.near)
    (rw (turned_square clockwise c, turned_square clockwise v) (omega (arith, m))) in
    rw e at a

-- q is beside the line along which the arc sets out
last_beside : (clockwise : Bool) (v c p q : Spot) → AreEnds clockwise v c p q → pos (4370 * spread v) ≤ℤ dot v q
last_beside clockwise v c p q h =
    let m : square_of c * square_of v ≤ square_of c * (2 ^ 46 * square_of c) = mul-le-mul_left (square_of c) h.bent in
    toward v c q (square_of c) h.last (rw (dot_comm v c) h.near) (omega (arith, m))

-- all directions of an arc are beside both lines
record AreBeside (clockwise : Bool) (v c p q : Spot) : Type 0 where
  chord : All (OnSide (turned_against clockwise c)) (between clockwise 6 p q)
  start : All (OnSide v) (between clockwise 6 p q)

less_none : (x y z : ℤ) → y ≡ pos 0 → x ≡ neg_ℤ z → neg_ℤ (x -ℤ y) ≡ z
less_none x y z e f = omega (arith, ints, e, f)

none_less : (x y : ℤ) → x ≡ pos 0 → neg_ℤ (x -ℤ y) ≡ y
none_less x y e = omega (arith, ints, e)

turned_about : (x y : ℤ) → neg_ℤ (x -ℤ y) ≡ y -ℤ x
turned_about x y = omega (arith, ints)

halves_of : (clockwise : Bool) (p q m : Spot) → IsDirection p → IsDirection q → HasLength (turned_against clockwise (way p q)) m → IsWithin (2 ^ 31) (turned_against clockwise (way p q))
    → pos (2 ^ 40) ≤ℤ dot (turned_against clockwise q) p → AreHalves p q m
halves_of clockwise p q m h k i j l =
    let w : Spot = way p q in
    let t : Spot = turned_against clockwise w in
    let s = spread_most p h in
    let u = spread_most q k in
    let first : dot p t ≡ dot (turned_against clockwise q) p =
    dot_comm p t ∙ turned_swap clockwise w p ∙ ap neg_ℤ (dot-way (turned_against clockwise p) p q)
    ∙ less_none (dot (turned_against clockwise p) q) (dot (turned_against clockwise p) p) (dot (turned_against clockwise q) p)
    (turned_self clockwise p) (turned_swap clockwise p q) in
    let last : dot q t ≡ dot (turned_against clockwise q) p =
    dot_comm q t ∙ turned_swap clockwise w q ∙ ap neg_ℤ (dot-way (turned_against clockwise q) p q)
    ∙ none_less (dot (turned_against clockwise q) q) (dot (turned_against clockwise q) p) (turned_self clockwise q) in
    let a = step_on p t m 0 i j (rw first (omega (arith, ints, l, s))) in
    let b = step_on q t m 0 i j (rw last (omega (arith, ints, l, u))) in
    record { first = omega (arith, ints, a); last = rw (dot_comm m q) (omega (arith, ints, b)) }

far_from : (s : ℕ) (x y : ℤ) → pos (4400 * s) ≤ℤ (x -ℤ y) → pos (3 * ((1454 + 2) * s)) ≤ℤ (x -ℤ y)
far_from s x y h = omega (arith, ints, h)

wide : (clockwise : Bool) (v c p q : Spot) → AreEnds clockwise v c p q → int_le (pos 0) (dot p q) ≡ false → AreBeside clockwise v c p q
wide clockwise v c p q h e =
    let l = lt_from_test (dot p q) e in
    let w : Spot = way p q in
    let t : Spot = turned_against clockwise w in
    let u : Spot = turned_against clockwise v in
    let r : Spot = turned_against clockwise c in
    let i = h.first.direction in
    let j = h.last.direction in
    let m : Spot = unit_of t in
    let n = unit_of_along t (turned_above clockwise w (way_above p q l)) in
    let o = turned_within clockwise w (2 ^ 31) (way_within p q i.within j.within) in
    let f = first_beside clockwise v c p q h in
    let g = last_beside clockwise v c p q h in
    let halves = halves_of clockwise p q m i j n o (is_turned clockwise c p q h.last i f) in
    let c_spread = turned_spread clockwise c in
    let v_spread = turned_spread clockwise v in
    let by_chord : dot r t ≡ dot c q -ℤ dot c p = turned_dot clockwise c w ∙ dot-way c p q in
    let by_start : dot v t ≡ dot u p -ℤ dot u q =
    dot_comm v t ∙ turned_swap clockwise w v ∙ ap neg_ℤ (dot-way u p q) ∙ turned_about (dot u q) (dot u p) in
    let a = apart c q p h.last l i in
    let b = apart u p q h.first (rw (dot_comm q p) l) j in
    let r_far : pos (1454 * spread r) ≤ℤ dot r m = step_on r t m 1454 n o (rw (by_chord, c_spread) (far_from (spread c) (dot c q) (dot c p) a)) in
    let v_far : pos (1454 * spread v) ≤ℤ dot v m = step_on v t m 1454 n o (rw by_start (far_from (spread v) (dot u p) (dot u q) (rw v_spread at b))) in
    let r_last = small r c q h.last (turned_self clockwise c) in
    let v_first = small v u p h.first (dot_comm v u ∙ turned_self clockwise v) in
    record {
      chord = both_ways 5 clockwise r p q m (wide_middle clockwise p q e) (rw c_spread h.c_above) i j n.direction halves
          (rw c_spread (omega (arith, ints, f))) r_last r_far;
      start = both_ways 5 clockwise v p q m (wide_middle clockwise p q e) h.v_above i j n.direction halves v_first (omega (arith, ints, g)) v_far;
    }

near_ends : (clockwise : Bool) (v c p q : Spot) → AreEnds clockwise v c p q → pos 0 ≤ℤ dot p q → AreBeside clockwise v c p q
near_ends clockwise v c p q h e =
    let r : Spot = turned_against clockwise c in
    let u : Spot = turned_against clockwise v in
    let i = h.first.direction in
    let j = h.last.direction in
    let f = first_beside clockwise v c p q h in
    let g = last_beside clockwise v c p q h in
    let c_spread = turned_spread clockwise c in
    let k : pos (4370 * spread r) ≤ℤ dot r p = rw c_spread f in
    let r_last = small r c q h.last (turned_self clockwise c) in
    let v_first = small v u p h.first (dot_comm v u ∙ turned_self clockwise v) in
    record {
      chord = chain 6 clockwise r p q (rw c_spread h.c_above) i j e (omega (arith, ints, k)) r_last (omega (arith, ints, k, r_last));
      start = chain 6 clockwise v p q h.v_above i j e v_first (omega (arith, ints, g)) (omega (arith, ints, g, v_first));
    }

sides_of : (clockwise : Bool) (v c p q : Spot) → AreEnds clockwise v c p q → AreBeside clockwise v c p q
sides_of clockwise v c p q h = elim (cases_Bool (int_le (pos 0) (dot p q))) [
  | inl e ↦ near_ends clockwise v c p q h (le_from_test (dot p q) e)
  | inr e ↦ wide clockwise v c p q h e
]

-- the sign of the cross product with the end
above_product : (x y : ℤ) → pos 0 <ℤ x → pos 0 <ℤ y → pos 0 <ℤ (x *ℤ y)
above_product (pos k) y h l = let m = lt_scale k (pos 0) y (omega (arith, ints, h)) l in omega (arith, ints, m)
above_product (negsuc k) y h l = absurd (omega (arith, ints, h))

below_product : (x s y : ℤ) → x <ℤ pos 0 → pos 0 <ℤ s → y <ℤ pos 0 → pos 0 <ℤ (x *ℤ (s *ℤ y))
below_product x s y h k l =
    let a = above_product s (neg_ℤ y) k (omega (arith, ints, l)) in
    let b = above_product (neg_ℤ x) (s *ℤ neg_ℤ y) (omega (arith, ints, h)) a in
    let e = mul-neg_z s y in
    let f = neg-mul_z x (s *ℤ neg_ℤ y) in
    let g : x *ℤ (s *ℤ neg_ℤ y) ≡ neg_ℤ (x *ℤ (s *ℤ y)) = ap (λ (z : ℤ). x *ℤ z) e ∙ mul-neg_z x (s *ℤ y) in
    omega (arith, ints, b, f, g)

reach_is : (dx dy s cx cy : ℤ) → (dx *ℤ s) *ℤ cy -ℤ (dy *ℤ s) *ℤ cx ≡ s *ℤ (dx *ℤ cy -ℤ dy *ℤ cx)
reach_is dx dy s cx cy =
    let a = ap (λ (z : ℤ). z *ℤ cy) (mul_comm_z dx s) ∙ mul_assoc_z s dx cy in
    let b = ap (λ (z : ℤ). z *ℤ cx) (mul_comm_z dy s) ∙ mul_assoc_z s dy cx in
    let c = mul-sub_z s (dx *ℤ cy) (dy *ℤ cx) in
    omega (arith, ints, a, b, c)

chord_sign : (c d : Spot) → dot (turned_against false c) d ≡ cross d c
chord_sign c d =
    let a = neg-mul_z c.x d.y in
    let b = mul_comm_z c.x d.y in
    let e = mul_comm_z c.y d.x in
    omega (arith, ints, a, b, e)

chord_sign_clockwise : (c d : Spot) → dot (turned_against true c) d ≡ neg_ℤ (cross d c)
chord_sign_clockwise c d =
    let a = neg-mul_z c.y d.x in
    let b = mul_comm_z c.x d.y in
    let e = mul_comm_z c.y d.x in
    omega (arith, ints, a, b, e)

beside_by : (circle : Circle) (b c d : Spot) → int_lt (cross b c) (pos 0) ≡ circle.clockwise → 0 < nat_abs (cross b c)
    → pos 0 <ℤ dot (turned_against circle.clockwise c) d → pos 0 <ℤ dot circle.centre d → IsBeside b c circle d
beside_by circle b c d e h k l =
    let s : ℤ = pos 2 *ℤ dot circle.centre d in
    let s_above : pos 0 <ℤ s = omega (arith, ints, l) in
    let r = reach_is d.x d.y s c.x c.y in
    rw r (elim (cases_Bool circle.clockwise) [
      | inl o ↦ (let k' = rw (o, chord_sign_clockwise c d) at k in
          let e' = rw o at e in
          below_product (cross b c) s (cross d c) (omega (arith, ints, e')) s_above (omega (arith, ints, k')))
      | inr o ↦ (let k' = rw (o, chord_sign c d) at k in
          let e' = rw o at e in
          above_product (cross b c) (s *ℤ cross d c) (omega (arith, ints, e', h)) (above_product s (cross d c) s_above k'))
    ])

both_all : (P Q R : Spot → Type 0) → ((d : Spot) → P d → Q d → R d) → (ds : List Spot) → All P ds → All Q ds → All R ds
both_all P Q R f [] h k = All-nil R
both_all P Q R f (d ∷ ds) h k =
    All-cons R d ds (f d (All-head P d ds h) (All-head Q d ds k)) (both_all P Q R f ds (All-tail P d ds h) (All-tail Q d ds k))

abbrev Passes : Spot → Spot → Circle → Type 0
Passes b c circle = IsBent circle c → All (IsBeside b c circle) (between circle.clockwise 6 circle.first circle.last)

by_passes : (a b c : Spot) → 0 < nat_abs (cross b c) → Passes b c (circle_by a b c)
unfolding circle_by
by_passes a b c h bent =
    let clockwise : Bool = int_lt (cross b c) (pos 0) in
    let v : Spot = centre_of b c in
    let u : Spot = turned_against clockwise v in
    let v_above = centre_above b c h in
    let c_above = cross_above b c h in
    let p : Spot = unit_of u in
    let q : Spot = unit_of c in
    let ends : AreEnds clockwise v c p q = record {
      first = unit_of_along u (turned_above clockwise v v_above);
      last = unit_of_along c c_above;
      near = centre_along b c h;
      bent = bent;
      v_above = v_above;
      c_above = c_above;
    } in
    let sides = sides_of clockwise v c p q ends in
    both_all (OnSide (turned_against clockwise c)) (OnSide v) (IsBeside b c (circle_by a b c))
    (λ (d : Spot) (k : OnSide (turned_against clockwise c) d) (l : OnSide v d). beside_by (circle_by a b c) b c d refl h k l) (between clockwise 6 p q) sides.chord sides.start

-- a whole circle ends where it begins
none_bent : (v c : Spot) → IsNotZero v → nat_abs c.x ≡ 0 → nat_abs c.y ≡ 0 → square_of v ≤ 2 ^ 46 * square_of c → ⊥
none_bent v c h e f k =
    let s = square_above v h in
    let k' = rw (e, f) at k in
    omega (arith, s, k')

same_number : (y z : ℤ) → int_eq y z ≡ true → nat_abs (y -ℤ z) ≡ 0
same_number y z e = let d = Decides-int_eq y z in let f : y ≡ z = d.0 e in omega (arith, ints, f)

no_way : (a c : Spot) → is_same_spot c a ≡ true → (nat_abs (way a c).x ≡ 0) × (nat_abs (way a c).y ≡ 0)
no_way a c e = elim (cases_Bool (int_eq c.x a.x)) [
  | inl f ↦ (let g = rw f at e in (same_number c.x a.x f, same_number c.y a.y g))
  | inr f ↦ (let g = rw f at e in absurd (true≢false (sym g)))
]

whole_passes : (a b c : Spot) → is_same_spot c a ≡ true → IsNotZero b → Passes b (way a c) (whole_circle a b)
unfolding whole_circle
whole_passes a b c e h bent =
    let z = no_way a c e in
    absurd (none_bent (record { x = pos 128 *ℤ b.x; y = pos 128 *ℤ b.y }) (way a c) (omega (arith, ints, h)) z.0 z.1 bent)

pub arcs_pass_lem : ArcsPassTheirMiddle
arcs_pass_lem a b c = elim (cases_Bool (is_same_spot c a)) [
  | inl e ↦ elim (cases_Bool (is_same_spot b a)) [
    | inl f ↦ rw (e, f) tt
    | inr f ↦ rw (e, f) (whole_passes a (way a b) c e (spots_apart a b f))
  ]
  | inr e ↦ elim (cases_Bool (int_eq (cross (way a b) (way a c)) (pos 0))) [
    | inl f ↦ rw (e, f) tt
    | inr f ↦ rw (e, f) (by_passes a (way a b) (way a c) (above_from_test (cross (way a b) (way a c)) f))
  ]
]
