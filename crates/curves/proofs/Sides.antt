-- Places between two directions are on one side of a line if both directions are.
use Rattle.std.proofs.Common.{◌≡◌, ℕ, zero, suc, ◌+◌, ◌*◌, ◌^◌, ◌<◌, ◌≤◌, Bool, true, inl, inr, refl, ap₂, ◌∙◌, arith, ◌∷◌}
use Rattle.std.proofs.Common.{ℤ, pos, neg_ℤ, nat_abs, int_le, ◌+ℤ◌, ◌-ℤ◌, ◌*ℤ◌, ◌≤ℤ◌, ◌<ℤ◌}
use Rattle.std.specs.List.{All}
use Rattle.std.proofs.lemmas.Bool.{cases_Bool}
use Rattle.std.proofs.lemmas.Int.{ints, unsigned_abs-mul}
use Rattle.std.proofs.lemmas.List.Elements.{All-append, All-cons, All-nil}
use Rattle.std.proofs.lemmas.Nat.{mul-le}
use Rattle.std.proofs.Math.Nat.{mul-le-mul_left}
use Rattle.exact.specs.declared.spot.Spot.{Spot}
use Rattle.exact.proofs.Ring.{mul-add_z, mul-sub_z, mul_comm_z, mul_left_comm_z}
use Rattle.exact.proofs.Rounding.{le_unscale}
use Rattle.directions.specs.Bounds.{IsWithin}
use Rattle.directions.specs.Directions.{square_of}
use Rattle.curves.specs.Arcs.{between, middle}
use Rattle.curves.specs.Vectors.{way, sum_of, dot, unit_of}
use Rattle.curves.proofs.Aboves.{lt_from_test}
use Rattle.curves.proofs.Alongs.{HasLength, IsAlong, IsDirection, root_le, unit_of_along}
use Rattle.curves.proofs.VectorLemmas.{dot_self, square_within, sum_above}

-- the sum of a vector's sizes in x and in y
abbrev pub spread : Spot → ℕ
spread r = nat_abs r.x + nat_abs r.y

-- d is on the side of a line to which r points
abbrev pub OnSide : Spot → Spot → Type 0
OnSide r d = pos 0 <ℤ dot r d

-- how far the dot product with a direction is from that with its vector
part_near : (a d v : ℤ) (l m : ℕ) → nat_abs (pos l *ℤ d -ℤ pos (2 ^ 62) *ℤ v) ≤ m
    → nat_abs (pos l *ℤ (a *ℤ d) -ℤ pos (2 ^ 62) *ℤ (a *ℤ v)) ≤ nat_abs a * m
part_near a d v l m h =
    let e : ℤ = pos l *ℤ d -ℤ pos (2 ^ 62) *ℤ v in
    let f = mul-sub_z a (pos l *ℤ d) (pos (2 ^ 62) *ℤ v) in
    let g = mul_left_comm_z a (pos l) d in
    let i = mul_left_comm_z a (pos (2 ^ 62)) v in
    let s : nat_abs (a *ℤ e) ≡ nat_abs a * nat_abs e = unsigned_abs-mul a e in
    let t : nat_abs a * nat_abs e ≤ nat_abs a * m = mul-le-mul_left (nat_abs a) h in
    let u : pos l *ℤ (a *ℤ d) -ℤ pos (2 ^ 62) *ℤ (a *ℤ v) ≡ a *ℤ e = omega (arith, ints, f, g, i) in
    rw u (omega (arith, s, t))

two_near : (x y z w : ℤ) (m n : ℕ) → nat_abs (x -ℤ z) ≤ m → nat_abs (y -ℤ w) ≤ n → nat_abs ((x +ℤ y) -ℤ (z +ℤ w)) ≤ m + n
two_near x y z w m n h k = omega (arith, ints, h, k)

pub dot_near : (r v d : Spot) (l : ℕ) → IsAlong v d l → nat_abs (pos l *ℤ dot r d -ℤ pos (2 ^ 62) *ℤ dot r v) ≤ 2 * (l * spread r)
dot_near r v d l h =
    let p = part_near r.x d.x v.x l (2 * l) h.x in
    let q = part_near r.y d.y v.y l (2 * l) h.y in
    let e = mul-add_z (pos l) (r.x *ℤ d.x) (r.y *ℤ d.y) in
    let f = mul-add_z (pos (2 ^ 62)) (r.x *ℤ v.x) (r.y *ℤ v.y) in
    let n = two_near (pos l *ℤ (r.x *ℤ d.x)) (pos l *ℤ (r.y *ℤ d.y)) (pos (2 ^ 62) *ℤ (r.x *ℤ v.x)) (pos (2 ^ 62) *ℤ (r.y *ℤ v.y))
    (nat_abs r.x * (2 * l)) (nat_abs r.y * (2 * l)) p q in
    rw (e, f) (omega (arith, n))

-- a vector between two directions is not long
length_most : (v d : Spot) (l : ℕ) → IsAlong v d l → IsWithin (2 ^ 31) v → l ≤ 3 * 2 ^ 62
length_most v d l h k =
    let s = square_within v (2 ^ 31) k in
    let t = h.short in
    root_le l (3 * 2 ^ 62) (omega (arith, s, t))

-- the dot product with the direction of such a vector, from that with the vector
pub unscaled : (l a : ℕ) (x : ℤ) → 0 < l → (pos (l * a)) ≤ℤ (pos l *ℤ x) → pos a ≤ℤ x
unscaled l a x h k = le_unscale l (pos a) x h k

step_lem : (l n s : ℕ) (x y : ℤ) → l ≤ 3 * 2 ^ 62 → nat_abs (pos l *ℤ x -ℤ pos (2 ^ 62) *ℤ y) ≤ 2 * (l * s) → pos (3 * ((n + 2) * s)) ≤ℤ y
    → pos (l * (n * s)) ≤ℤ (pos l *ℤ x)
step_lem l n s x y h k m =
    let p : l * ((n + 2) * s) ≤ 3 * 2 ^ 62 * ((n + 2) * s) = mul-le l ((n + 2) * s) (3 * 2 ^ 62) ((n + 2) * s) h (omega arith) in
    omega (arith, ints, p, k, m)

pub step_on : (r v d : Spot) (n : ℕ) → HasLength v d → IsWithin (2 ^ 31) v → pos (3 * ((n + 2) * spread r)) ≤ℤ dot r v → pos (n * spread r) ≤ℤ dot r d
step_on r v d n h k m =
    unscaled h.l (n * spread r) (dot r d) h.along.above
    (step_lem h.l n (spread r) (dot r d) (dot r v) (length_most v d h.l h.along k) (dot_near r v d h.l h.along) m)

-- sums
pub dot-sum : (r p q : Spot) → dot r (sum_of p q) ≡ dot r p +ℤ dot r q
dot-sum r p q =
    let e = mul-add_z r.x p.x q.x in
    let f = mul-add_z r.y p.y q.y in
    omega (arith, ints, e, f)

pub dot-way : (r p q : Spot) → dot r (way p q) ≡ dot r q -ℤ dot r p
dot-way r p q =
    let e = mul-sub_z r.x q.x p.x in
    let f = mul-sub_z r.y q.y p.y in
    omega (arith, ints, e, f)

pub dot_comm : (p q : Spot) → dot p q ≡ dot q p
dot_comm p q = ap₂ (λ (x y : ℤ). x +ℤ y) (mul_comm_z p.x q.x) (mul_comm_z p.y q.y)

sum_within : (p q : Spot) → IsWithin (2 ^ 30) p → IsWithin (2 ^ 30) q → IsWithin (2 ^ 31) (sum_of p q)
sum_within p q h k =
    let a = h.x_in in
    let b = h.y_in in
    let c = k.x_in in
    let d = k.y_in in
    record { x_in = omega (arith, ints, a, c); y_in = omega (arith, ints, b, d) }

square_not : (x y : ℕ) → 0 < x * x + y * y → 0 < x + y
square_not zero zero h = h
square_not zero (suc y) h = omega arith
square_not (suc x) y h = omega arith

pub direction_above : (p : Spot) → IsDirection p → 0 < nat_abs p.x + nat_abs p.y
direction_above p h = let l = h.least in square_not (nat_abs p.x) (nat_abs p.y) (omega (arith, l))

pub spread_most : (p : Spot) → IsDirection p → spread p ≤ 2 ^ 31
spread_most p h = let a = h.within.x_in in let b = h.within.y_in in omega (arith, a, b)

-- how much two dot products must add up to, by how often the directions are halved
abbrev pub enough : ℕ → ℕ
enough zero = 0
enough (suc k) = 3 * (enough k + 4)

le_test : (z : ℤ) → pos 0 ≤ℤ z → int_le (pos 0) z ≡ true
le_test z h = elim (cases_Bool (int_le (pos 0) z)) [
  | inl e ↦ e
  | inr e ↦ (let l = lt_from_test z e in absurd (omega (arith, ints, l, h)))
]

-- the middle of two directions at most 90 degrees apart
near_middle : (clockwise : Bool) (p q : Spot) → pos 0 ≤ℤ dot p q → middle clockwise p q ≡ unit_of (sum_of p q)
unfolding middle
near_middle clockwise p q h = rw (le_test (dot p q) h) refl

add_comm_z : (x y : ℤ) → x +ℤ y ≡ y +ℤ x
add_comm_z x y = omega (arith, ints)

far_lem : (s n : ℕ) (x : ℤ) → 2 ^ 58 ≤ n → s ≤ 2 ^ 31 → pos 0 ≤ℤ x → pos (3 * ((0 + 2) * s)) ≤ℤ (pos n +ℤ x)
far_lem s n x h k l = omega (arith, ints, h, k, l)

zero_lem : (s : ℕ) (x : ℤ) → pos (0 * s) ≤ℤ x → pos 0 ≤ℤ x
zero_lem s x h = omega (arith, ints, h)

pub record IsHalf (p q m : Spot) : Type 0 where
  pub length : HasLength (sum_of p q) m
  pub within : IsWithin (2 ^ 31) (sum_of p q)
  pub first : pos 0 ≤ℤ dot p m
  pub last : pos 0 ≤ℤ dot m q

half_by : (p q v m : Spot) → IsDirection p → pos 0 ≤ℤ dot p q → dot p v ≡ dot p p +ℤ dot p q → HasLength v m → IsWithin (2 ^ 31) v → pos 0 ≤ℤ dot p m
half_by p q v m h e f i j =
    let s = h.least in
    let t = spread_most p h in
    let g = dot_self p in
    let a = step_on p v m 0 i j (rw (f, g) (far_lem (spread p) (square_of p) (dot p q) s t e)) in
    zero_lem (spread p) (dot p m) a

half_of : (clockwise : Bool) (p q : Spot) → IsDirection p → IsDirection q → pos 0 ≤ℤ dot p q → IsHalf p q (middle clockwise p q)
half_of clockwise p q h k e =
    let v : Spot = sum_of p q in
    let m : Spot = unit_of v in
    let i : HasLength v m = unit_of_along v (sum_above p q (direction_above p h) e) in
    let j = sum_within p q h.within k.within in
    let g : pos 0 ≤ℤ dot q p = rw (dot_comm q p) e in
    let last = half_by q p v m k g (dot-sum q p q ∙ add_comm_z (dot q p) (dot q q)) i j in
    rw (near_middle clockwise p q e) (record {
      length = i;
      within = j;
      first = half_by p q v m h e (dot-sum p p q) i j;
      last = rw (dot_comm m q) last;
    })

-- all directions between two that are at most 90 degrees apart, with neither far on the other side of a line
pub chain : (k : ℕ) (clockwise : Bool) (r p q : Spot) → 0 < spread r → IsDirection p → IsDirection q → pos 0 ≤ℤ dot p q
    → neg_ℤ (pos (2 * spread r)) ≤ℤ dot r p → neg_ℤ (pos (2 * spread r)) ≤ℤ dot r q → pos (enough k * spread r) ≤ℤ (dot r p +ℤ dot r q)
    → All (OnSide r) (between clockwise k p q)
unfolding between
chain zero clockwise r p q a h k e f g i = All-nil (OnSide r)
chain (suc k) clockwise r p q a h l e f g i =
    let m : Spot = middle clockwise p q in
    let o = half_of clockwise p q h l e in
    let s : ℕ = spread r in
    let t = dot-sum r p q in
    let u : pos ((enough k + 2) * s) ≤ℤ dot r m = step_on r (sum_of p q) m (enough k + 2) o.length o.within (rw t (omega (arith, ints, i))) in
    let above : pos 0 <ℤ dot r m = omega (arith, ints, u, a) in
    let not_far : neg_ℤ (pos (2 * s)) ≤ℤ dot r m = omega (arith, ints, u) in
    All-append (OnSide r) (between clockwise k p m) (m ∷ between clockwise k m q)
    (chain k clockwise r p m a h o.length.direction o.first f not_far (omega (arith, ints, u, f)))
    (All-cons (OnSide r) m (between clockwise k m q) above
    (chain k clockwise r m q a o.length.direction l o.last not_far g (omega (arith, ints, u, g))))
