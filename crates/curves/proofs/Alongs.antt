-- A direction points along its vector: by how much it is longer, and how far off its coordinates are.
use Rattle.std.proofs.Common.{◌≡◌, ◌⊎◌, ℕ, zero, suc, ◌+◌, ◌-◌, ◌*◌, ◌/◌, ◌^◌, ◌<◌, ◌≤◌, inl, inr, refl, ap, arith}
use Rattle.std.proofs.Common.{ℤ, pos, negsuc, nat_abs, ◌+ℤ◌, ◌-ℤ◌, ◌*ℤ◌, ◌≤ℤ◌, ◌<ℤ◌}
use Rattle.std.specs.Prelude.{max}
use Rattle.std.proofs.lemmas.Bool.{cases_lt}
use Rattle.std.proofs.lemmas.Bool.Decides.{nat_tests}
use Rattle.std.proofs.lemmas.Int.{ints, unsigned_abs-mul}
use Rattle.std.proofs.lemmas.Nat.{mul-le, pow_pos}
use Rattle.std.proofs.Math.Nat.{pow-suc, mul-le-mul_left}
use Rattle.exact.specs.Fraction.{round, quotient}
use Rattle.exact.specs.Roots.{IsRoot, root_by}
use Rattle.exact.specs.declared.spot.Spot.{Spot}
use Rattle.exact.proofs.Ring.{mul_assoc_z, mul_left_comm_z, mul-neg_z, mul-sub_z}
use Rattle.exact.proofs.RootLemmas.{root_by_is}
use Rattle.exact.proofs.Rounding.{meets_lem}
use Rattle.directions.specs.Bounds.{IsWithin}
use Rattle.directions.specs.Directions.{surplus, surplus_of, shortened, size_in, part_in, square_of, direction_of}
use Rattle.directions.specs.Laws.{IsNearest}
use Rattle.directions.proofs.Lengths.{size_is_nearest, surplus_at_least, surplus_none}
use Rattle.curves.specs.Vectors.{unit_of}
use Rattle.curves.proofs.Places.{product_below}
use Rattle.curves.proofs.Units.{part_size, short_above}
use Rattle.curves.proofs.VectorLemmas.{square_above}

-- squares in order
pub root_le : (x y : ℕ) → x * x ≤ y * y → x ≤ y
root_le x y h = elim (cases_lt y x) [
  | inl l ↦ (let m : (y + 1) * (y + 1) ≤ x * x = mul-le (y + 1) (y + 1) x x (omega arith) (omega arith) in absurd (omega (arith, m, h)))
  | inr l ↦ l
]

low_lem : (t l a s : ℕ) → t * t * s ≤ 2 ^ 62 * (a * a) → l * l ≤ 2 ^ 64 * s → t * l ≤ 2 ^ 63 * a
low_lem t l a s p q =
    let m : t * t * (l * l) ≤ t * t * (2 ^ 64 * s) = mul-le-mul_left (t * t) q in
    root_le (t * l) (2 ^ 63 * a) (omega (arith, m, p))

high_lem : (t m a s : ℕ) → 2 ^ 62 * (a * a) < t * t * s → 2 ^ 64 * s < m * m → 2 ^ 63 * a ≤ t * m
high_lem t m a s p q =
    let n : t * t * (2 ^ 64 * s) ≤ t * t * (m * m) = mul-le-mul_left (t * t) (omega arith) in
    root_le (2 ^ 63 * a) (t * m) (omega (arith, n, p))

-- a size that is nearest, by the length of the vector, which is l / 2^32
low_by : (t l a r s : ℕ) → t + 1 ≡ 2 * r → t * t * s ≤ 2 ^ 62 * (a * a) → l * l ≤ 2 ^ 64 * s → 2 * (l * r) ≤ 2 ^ 63 * a + l
low_by t l a r s e p q =
    let m = low_lem t l a s p q in
    let f : (t + 1) * l ≡ 2 * r * l = ap (λ (x : ℕ). x * l) e in
    omega (arith, m, f)

size_low : (square a l r : ℕ) → IsNearest square a r → l * l ≤ 2 ^ 64 * square → 2 * (l * r) ≤ 2 ^ 63 * a + l
size_low square a l r n h = elim (cases_lt 0 r) [
  | inl m ↦ low_by (2 * r - 1) l a r square (omega arith) n.least h
  | inr m ↦ (let z : r ≡ 0 = omega arith in let g : l * r ≡ l * 0 = ap (λ (x : ℕ). l * x) z in omega (arith, g))
]

size_high : (square a l r : ℕ) → IsNearest square a r → 2 ^ 64 * square < (l + 1) * (l + 1) → 2 * r + 1 ≤ l → 2 ^ 63 * a ≤ 2 * (l * r) + 2 * l
size_high square a l r n h k = let p = high_lem (2 * r + 1) (l + 1) a square n.most h in omega (arith, p)

pub size_most : (square a r : ℕ) → 0 < square → a * a ≤ square → IsNearest square a r → r ≤ 2 ^ 30
size_most square a r h k n = elim (cases_lt (2 ^ 30) r) [
  | inl l ↦ (let m : (2 ^ 31 + 1) * (2 ^ 31 + 1) * square ≤ (2 * r - 1) * (2 * r - 1) * square =
      mul-le ((2 ^ 31 + 1) * (2 ^ 31 + 1)) square ((2 * r - 1) * (2 * r - 1)) square
      (mul-le (2 ^ 31 + 1) (2 ^ 31 + 1) (2 * r - 1) (2 * r - 1) (omega arith) (omega arith)) (omega arith) in
      absurd (omega (arith, m, n.least, k, h)))
  | inr l ↦ l
]

pub size_least : (square a r : ℕ) → 0 < a → square ≤ 2 * (a * a) → IsNearest square a r → 2 ^ 29 ≤ r
size_least square a r h k n = elim (cases_lt r (2 ^ 29)) [
  | inl l ↦ (let m : (2 * r + 1) * (2 * r + 1) * square ≤ 2 ^ 30 * 2 ^ 30 * (2 * (a * a)) =
      mul-le ((2 * r + 1) * (2 * r + 1)) square (2 ^ 30 * 2 ^ 30) (2 * (a * a))
      (mul-le (2 * r + 1) (2 * r + 1) (2 ^ 30) (2 ^ 30) (omega arith) (omega arith)) k in
      absurd (omega (arith, m, n.most)))
  | inr l ↦ l
]

few_fours : (n : ℕ) → n < 4 ^ n
few_fours zero = omega arith
few_fours (suc n) = let e = pow-suc 4 n in let h = few_fours n in omega (arith, e, h)

-- the length of a vector in parts of 2^32, rounded down
abbrev pub length_in : ℕ → ℕ
length_in square = root_by (2 ^ 64 * square) (2 ^ 64 * square)

pub length_is : (square : ℕ) → IsRoot (2 ^ 64 * square) (length_in square)
length_is square = root_by_is (2 ^ 64 * square) (2 ^ 64 * square) (few_fours (2 ^ 64 * square))

length_least : (square l : ℕ) → 0 < square → IsRoot (2 ^ 64 * square) l → 2 ^ 32 ≤ l
length_least square l h r = elim (cases_lt l (2 ^ 32)) [
  | inl m ↦ (let p : (l + 1) * (l + 1) ≤ 2 ^ 32 * 2 ^ 32 = mul-le (l + 1) (l + 1) (2 ^ 32) (2 ^ 32) (omega arith) (omega arith) in absurd (omega (arith, p, r.next_above)))
  | inr m ↦ m
]

-- a coordinate of a direction
part_along : (square l : ℕ) (a : ℤ) → 0 < square → nat_abs a * nat_abs a ≤ square → IsRoot (2 ^ 64 * square) l
    → nat_abs (pos l *ℤ part_in square a -ℤ pos (2 ^ 62) *ℤ a) ≤ l
part_along square l (pos n) h k r =
    let s : ℕ = size_in square n in
    let i = size_is_nearest square n h k in
    let m = size_most square n s h k i in
    let g = length_least square l h r in
    let p = size_low square n l s i r.square_in in
    let q = size_high square n l s i r.next_above (omega arith) in
    omega (arith, ints, p, q)
part_along square l (negsuc n) h k r =
    let s : ℕ = size_in square (suc n) in
    let i = size_is_nearest square (suc n) h k in
    let m = size_most square (suc n) s h k i in
    let g = length_least square l h r in
    let p = size_low square (suc n) l s i r.square_in in
    let q = size_high square (suc n) l s i r.next_above (omega arith) in
    let e = mul-neg_z (pos l) (pos s) in
    omega (arith, ints, p, q, e)

far_lem : (x a y u : ℤ) (n : ℕ) → x ≡ a +ℤ pos (2 ^ 62) *ℤ y → nat_abs a ≤ n → 2 ^ 62 * nat_abs (y -ℤ u) ≤ n
    → nat_abs (x -ℤ pos (2 ^ 62) *ℤ u) ≤ 2 * n
far_lem x a y u n e h k = omega (arith, ints, e, h, k)

-- after a vector was divided by k, which rounds its coordinates
scaled_along : (k l : ℕ) (d w u : ℤ) → 0 < k → nat_abs (pos l *ℤ d -ℤ pos (2 ^ 62) *ℤ w) ≤ l → 2 * nat_abs (pos k *ℤ w -ℤ u) ≤ k
    → (k ≡ 1) ⊎ (2 ^ 61 ≤ l) → nat_abs (pos (k * l) *ℤ d -ℤ pos (2 ^ 62) *ℤ u) ≤ 2 * (k * l)
scaled_along k l d w u p h i j =
    let a : ℤ = pos l *ℤ d -ℤ pos (2 ^ 62) *ℤ w in
    let e : pos (k * l) *ℤ d ≡ pos k *ℤ (pos l *ℤ d) = mul_assoc_z (pos k) (pos l) d in
    let f : pos k *ℤ a ≡ pos k *ℤ (pos l *ℤ d) -ℤ pos k *ℤ (pos (2 ^ 62) *ℤ w) = mul-sub_z (pos k) (pos l *ℤ d) (pos (2 ^ 62) *ℤ w) in
    let g : pos k *ℤ (pos (2 ^ 62) *ℤ w) ≡ pos (2 ^ 62) *ℤ (pos k *ℤ w) = mul_left_comm_z (pos k) (pos (2 ^ 62)) w in
    let m : nat_abs (pos k *ℤ a) ≡ k * nat_abs a = unsigned_abs-mul (pos k) a in
    let n : k * nat_abs a ≤ k * l = mul-le-mul_left k h in
    let q : 2 ^ 62 * nat_abs (pos k *ℤ w -ℤ u) ≤ k * l = elim j [
      | inl o ↦ (let z : nat_abs (pos k *ℤ w -ℤ u) ≡ 0 = omega arith in omega (arith, z))
      | inr o ↦ (let r : k * 2 ^ 61 ≤ k * l = mul-le-mul_left k o in omega (arith, r, i))
    ] in
    far_lem (pos (k * l) *ℤ d) (pos k *ℤ a) (pos k *ℤ w) u (k * l) (omega (arith, ints, e, f, g)) (omega (arith, m, n)) q

-- d is the direction of v, and l its length in parts of 2^32, up to roundings
pub record IsAlong (v d : Spot) (l : ℕ) : Type 0 where
  pub above : 0 < l
  pub x : nat_abs (pos l *ℤ d.x -ℤ pos (2 ^ 62) *ℤ v.x) ≤ 2 * l
  pub y : nat_abs (pos l *ℤ d.y -ℤ pos (2 ^ 62) *ℤ v.y) ≤ 2 * l
  pub short : 8 * (l * l) ≤ 9 * (2 ^ 64 * square_of v)

pub record IsDirection (d : Spot) : Type 0 where
  pub within : IsWithin (2 ^ 30) d
  pub least : 2 ^ 58 ≤ square_of d

pub record HasLength (v d : Spot) : Type 0 where
  pub l : ℕ
  pub along : IsAlong v d l
  pub direction : IsDirection d

-- sums of squares of rounded numbers
len_lem : (w z u v k : ℕ) → 2 * w ≤ 2 * u + k → 2 * z ≤ 2 * v + k → 2 ^ 30 * k ≤ u + v → 8 * (w * w + z * z) ≤ 9 * (u * u + v * v)
len_lem w z u v k p q r =
    let a : 2 * w * (2 * w) ≤ (2 * u + k) * (2 * u + k) = mul-le (2 * w) (2 * w) (2 * u + k) (2 * u + k) p p in
    let b : 2 * z * (2 * z) ≤ (2 * v + k) * (2 * v + k) = mul-le (2 * z) (2 * z) (2 * v + k) (2 * v + k) q q in
    let c : 2 ^ 30 * k * (u + v) ≤ (u + v) * (u + v) = mul-le (2 ^ 30 * k) (u + v) (u + v) (u + v) r (omega arith) in
    let d : 2 ^ 30 * k * (2 ^ 30 * k) ≤ (u + v) * (u + v) = mul-le (2 ^ 30 * k) (2 ^ 30 * k) (u + v) (u + v) r r in
    let e = product_below u v in
    omega (arith, a, b, c, d, e)

-- a number that is divided by k
rounded_lem : (k : ℕ) (u z : ℤ) → (pos (2 * k) *ℤ z) ≤ℤ (pos 2 *ℤ u +ℤ pos k) → (pos 2 *ℤ u +ℤ pos k) <ℤ (pos (2 * k) *ℤ z +ℤ pos (2 * k))
    → 2 * nat_abs (pos k *ℤ z -ℤ u) ≤ k
rounded_lem k u z p q =
    let e : pos (2 * k) *ℤ z ≡ pos 2 *ℤ (pos k *ℤ z) = mul_assoc_z (pos 2) (pos k) z in
    omega (arith, ints, e, p, q)

pub rounded_near : (k : ℕ) (u : ℤ) → 0 < k → 2 * nat_abs (pos k *ℤ round (quotient u (pos k)) -ℤ u) ≤ k
rounded_near k u h = let m = meets_lem (quotient u (pos k)) h in rounded_lem k u (round (quotient u (pos k))) m.least m.most

surplus_half : (k n : ℕ) → 2 ^ 31 ≤ n → surplus (suc k) n ≡ suc (surplus k (n / 2))
unfolding surplus
surplus_half k n h = grind (arith, nat_tests)

surplus_zero : (n : ℕ) → surplus zero n ≡ 0
unfolding surplus
surplus_zero n = refl

high_half : (s n : ℕ) → 2 ^ 31 ≤ n → (s ≡ 0) ⊎ (2 ^ 30 * 2 ^ s ≤ n / 2) → 2 ^ 30 * 2 ^ suc s ≤ n
high_half s n l (inl z) = let f = pow-suc 2 s in let g : 2 ^ s ≡ 1 = ap (λ (h : ℕ). 2 ^ h) z in omega (arith, f, g, l)
high_half s n l (inr z) = let f = pow-suc 2 s in omega (arith, f, z)

-- a surplus leaves 31 digits
surplus_high : (k n : ℕ) → (surplus k n ≡ 0) ⊎ (2 ^ 30 * 2 ^ surplus k n ≤ n)
surplus_high zero n = inl (surplus_zero n)
surplus_high (suc k) n = elim (cases_lt n (2 ^ 31)) [
  | inl l ↦ inl (surplus_none (suc k) n l)
  | inr l ↦ inr (rw (surplus_half k n l) (high_half (surplus k (n / 2)) n l (surplus_high k (n / 2))))
]

-- a number of 30 digits or more keeps 29 of them
kept_high : (k w u : ℕ) → 0 < k → 2 ^ 30 * k ≤ u → 2 * u ≤ 2 * (k * w) + k → 2 ^ 29 ≤ w
kept_high k w u p q r = elim (cases_lt w (2 ^ 29)) [
  | inl l ↦ (let m : k * (w + 1) ≤ k * 2 ^ 29 = mul-le-mul_left k (omega arith) in absurd (omega (arith, m, q, r)))
  | inr l ↦ l
]

long_lem : (square l : ℕ) → 2 ^ 58 ≤ square → IsRoot (2 ^ 64 * square) l → 2 ^ 61 ≤ l
long_lem square l h r = elim (cases_lt l (2 ^ 61)) [
  | inl m ↦ (let p : (l + 1) * (l + 1) ≤ 2 ^ 61 * 2 ^ 61 = mul-le (l + 1) (l + 1) (2 ^ 61) (2 ^ 61) (omega arith) (omega arith) in absurd (omega (arith, p, r.next_above)))
  | inr m ↦ m
]

square_high : (x y : ℕ) → (2 ^ 29 ≤ x) ⊎ (2 ^ 29 ≤ y) → 2 ^ 58 ≤ x * x + y * y
square_high x y (inl h) = let m : 2 ^ 29 * 2 ^ 29 ≤ x * x = mul-le (2 ^ 29) (2 ^ 29) x x h h in omega (arith, m)
square_high x y (inr h) = let m : 2 ^ 29 * 2 ^ 29 ≤ y * y = mul-le (2 ^ 29) (2 ^ 29) y y h h in omega (arith, m)

times_size : (k : ℕ) (w : ℤ) → nat_abs (pos k *ℤ w) ≡ k * nat_abs w
times_size k w = unsigned_abs-mul (pos k) w

back_lem : (k : ℕ) (w u : ℤ) → 2 * nat_abs (pos k *ℤ w -ℤ u) ≤ k → (2 * nat_abs u ≤ 2 * (k * nat_abs w) + k) × (2 * (k * nat_abs w) ≤ 2 * nat_abs u + k)
back_lem k w u h = let e = times_size k w in (omega (arith, ints, e, h), omega (arith, ints, e, h))

-- a vector's numbers, divided by k, are large unless k is 1
high_lem_of : (k : ℕ) (u v a b : ℤ) → 0 < k → 2 ^ 30 * k ≤ max (nat_abs u) (nat_abs v) → 2 * nat_abs (pos k *ℤ a -ℤ u) ≤ k → 2 * nat_abs (pos k *ℤ b -ℤ v) ≤ k
    → 2 ^ 58 ≤ nat_abs a * nat_abs a + nat_abs b * nat_abs b
high_lem_of k u v a b h n p q =
    let s = back_lem k a u p in
    let t = back_lem k b v q in
    square_high (nat_abs a) (nat_abs b) (elim (cases_lt (nat_abs u) (nat_abs v)) [
      | inl l ↦ inr (kept_high k (nat_abs b) (nat_abs v) h (omega (arith, n, l)) t.0)
      | inr l ↦ inl (kept_high k (nat_abs a) (nat_abs u) h (omega (arith, n, l)) s.0)
    ])

short_one : (l : ℕ) (u v a b : ℤ) → 2 * nat_abs (pos 1 *ℤ a -ℤ u) ≤ 1 → 2 * nat_abs (pos 1 *ℤ b -ℤ v) ≤ 1
    → l * l ≤ 2 ^ 64 * (nat_abs a * nat_abs a + nat_abs b * nat_abs b)
    → 8 * (1 * l * (1 * l)) ≤ 9 * (2 ^ 64 * (nat_abs u * nat_abs u + nat_abs v * nat_abs v))
short_one l u v a b p q r =
    let s : nat_abs a ≡ nat_abs u = omega (arith, ints, p) in
    let t : nat_abs b ≡ nat_abs v = omega (arith, ints, q) in
    let m = rw (s, t) at r in
    omega (arith, m)

-- the length of the divided vector, times k
short_lem : (k l : ℕ) (u v a b : ℤ) → (k ≡ 1) ⊎ (2 ^ 30 * k ≤ max (nat_abs u) (nat_abs v)) → 2 * nat_abs (pos k *ℤ a -ℤ u) ≤ k → 2 * nat_abs (pos k *ℤ b -ℤ v) ≤ k
    → l * l ≤ 2 ^ 64 * (nat_abs a * nat_abs a + nat_abs b * nat_abs b)
    → 8 * (k * l * (k * l)) ≤ 9 * (2 ^ 64 * (nat_abs u * nat_abs u + nat_abs v * nat_abs v))
short_lem k l u v a b (inl o) p q r =
    let p' = rw o at p in
    let q' = rw o at q in
    rw o (short_one l u v a b p' q' r)
short_lem k l u v a b (inr o) p q r =
    let s = back_lem k a u p in
    let t = back_lem k b v q in
    let x : ℕ = nat_abs a in
    let y : ℕ = nat_abs b in
    let m = len_lem (k * x) (k * y) (nat_abs u) (nat_abs v) k s.1 t.1 (omega (arith, o)) in
    let n : k * k * (l * l) ≤ k * k * (2 ^ 64 * (x * x + y * y)) = mul-le-mul_left (k * k) r in
    omega (arith, m, n)

-- the size of a direction
direction_lem : (v : Spot) → 0 < nat_abs v.x + nat_abs v.y → IsDirection (direction_of v)
direction_lem v h =
    let x : ℕ = nat_abs v.x in
    let y : ℕ = nat_abs v.y in
    let s : ℕ = square_of v in
    let p = square_above v h in
    let i = size_is_nearest s x p (omega arith) in
    let j = size_is_nearest s y p (omega arith) in
    let e = part_size s v.x in
    let f = part_size s v.y in
    let m = size_most s x (size_in s x) p (omega arith) i in
    let n = size_most s y (size_in s y) p (omega arith) j in
    record {
      within = record { x_in = omega (arith, e, m); y_in = omega (arith, f, n) };
      least = rw (e, f) (square_high (size_in s x) (size_in s y) (elim (cases_lt x y) [
        | inl l ↦ (let q : x * x ≤ y * y = mul-le x x y y (omega arith) (omega arith) in inr (size_least s y (size_in s y) (omega arith) (omega (arith, q)) j))
        | inr l ↦ (let q : y * y ≤ x * x = mul-le y y x x (omega arith) (omega arith) in inl (size_least s x (size_in s x) (omega arith) (omega (arith, q)) i))
      ]));
    }

with_length : (k l : ℕ) (u v a b : ℤ) (d : Spot) → 0 < k → 0 < l → (k ≡ 1) ⊎ (2 ^ 30 * k ≤ max (nat_abs u) (nat_abs v)) → 2 * nat_abs (pos k *ℤ a -ℤ u) ≤ k → 2 * nat_abs (pos k *ℤ b -ℤ v) ≤ k
    → IsRoot (2 ^ 64 * (nat_abs a * nat_abs a + nat_abs b * nat_abs b)) l
    → nat_abs (pos l *ℤ d.x -ℤ pos (2 ^ 62) *ℤ a) ≤ l → nat_abs (pos l *ℤ d.y -ℤ pos (2 ^ 62) *ℤ b) ≤ l
    → IsAlong (record { x = u; y = v }) d (k * l)
with_length k l u v a b d h g o p q r i j =
    let large : (k ≡ 1) ⊎ (2 ^ 61 ≤ l) = elim o [
      | inl e ↦ inl e
      | inr e ↦ inr (long_lem (nat_abs a * nat_abs a + nat_abs b * nat_abs b) l (high_lem_of k u v a b h e p q) r)
    ] in
    record {
      above = (let m : 1 * 1 ≤ k * l = mul-le 1 1 k l h g in omega (arith, m));
      x = scaled_along k l d.x a u h i p large;
      y = scaled_along k l d.y b v h j q large;
      short = short_lem k l u v a b o p q r.square_in;
    }

pub unit_of_along : (v : Spot) → 0 < nat_abs v.x + nat_abs v.y → HasLength v (unit_of v)
unit_of_along v h =
    let n : ℕ = max (nat_abs v.x) (nat_abs v.y) in
    let s : ℕ = surplus_of v.x v.y in
    let k : ℕ = 2 ^ s in
    let w : Spot = record { x = shortened s v.x; y = shortened s v.y } in
    let square : ℕ = square_of w in
    let at_least = surplus_at_least 96 n (omega arith) in
    let w_above = short_above v.x v.y s n refl at_least in
    let p = square_above w w_above in
    let l : ℕ = length_in square in
    let r = length_is square in
    let k_above = pow_pos s in
    let o : (k ≡ 1) ⊎ (2 ^ 30 * k ≤ n) = elim (surplus_high 96 n) [
      | inl z ↦ inl (ap (λ (i : ℕ). 2 ^ i) z)
      | inr z ↦ inr z
    ] in
    record {
      l = k * l;
      along = with_length k l v.x v.y w.x w.y (unit_of v) k_above (let g = length_least square l p r in omega (arith, g)) o
          (rounded_near k v.x k_above) (rounded_near k v.y k_above) r
          (part_along square l w.x p (omega arith) r) (part_along square l w.y p (omega arith) r);
      direction = direction_lem w w_above;
    }
