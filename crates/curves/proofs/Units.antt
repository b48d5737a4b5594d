-- A direction is not (0, 0).
use Rattle.std.proofs.Common.{◌≡◌, ℕ, suc, ◌+◌, ◌*◌, ◌^◌, ◌<◌, ◌≤◌, inl, inr, refl, arith, ℤ, pos, negsuc, neg_ℤ, nat_abs}
use Rattle.std.specs.Prelude.{max}
use Rattle.std.proofs.lemmas.Bool.{cases_lt}
use Rattle.std.proofs.lemmas.Int.{ints}
use Rattle.std.proofs.lemmas.Nat.{pow_pos, mul-le}
use Rattle.exact.specs.declared.spot.Spot.{Spot}
use Rattle.exact.proofs.Between.{not_zero}
use Rattle.directions.specs.Directions.{surplus_of, shortened, size_in, part_in, square_of, direction_of, unit}
use Rattle.directions.proofs.Lengths.{size_is_nearest, surplus_at_least}

-- a part of at least 45 degrees is not 0
size_above : (square a : ℕ) → 0 < a → a * a ≤ square → square ≤ 2 * (a * a) → 0 < size_in square a
size_above square a h k l =
    let s : ℕ = size_in square a in
    let p : 1 * 1 ≤ a * a = mul-le 1 1 a a h h in
    let n = size_is_nearest square a (omega arith) k in
    elim (cases_lt 0 s) [
      | inl b ↦ b
      | inr b ↦ (let e : s ≡ 0 = omega arith in let m = rw e at n.most in absurd (omega arith))
    ]

pub part_size : (square : ℕ) (a : ℤ) → nat_abs (part_in square a) ≡ size_in square (nat_abs a)
part_size square (pos n) = refl
part_size square (negsuc n) = let s : ℕ = size_in square (suc n) in let e : nat_abs (neg_ℤ (pos s)) ≡ s = omega (arith, ints) in e

part_above : (square : ℕ) (a : ℤ) → 0 < nat_abs a → nat_abs a * nat_abs a ≤ square → square ≤ 2 * (nat_abs a * nat_abs a) → 0 < nat_abs (part_in square a)
part_above square a h k l = rw (part_size square a) (size_above square (nat_abs a) h k l)

direction_above : (v : Spot) → 0 < nat_abs v.x + nat_abs v.y → 0 < nat_abs (direction_of v).x + nat_abs (direction_of v).y
direction_above v h = elim (cases_lt (nat_abs v.x) (nat_abs v.y)) [
  | inl l ↦ (let m : nat_abs v.x * nat_abs v.x ≤ nat_abs v.y * nat_abs v.y = mul-le (nat_abs v.x) (nat_abs v.x) (nat_abs v.y) (nat_abs v.y) (omega arith) (omega arith) in
      let p = part_above (square_of v) v.y (omega arith) (omega arith) (omega arith) in
      omega (arith, p))
  | inr l ↦ (let m : nat_abs v.y * nat_abs v.y ≤ nat_abs v.x * nat_abs v.x = mul-le (nat_abs v.y) (nat_abs v.y) (nat_abs v.x) (nat_abs v.x) (omega arith) (omega arith) in
      let p = part_above (square_of v) v.x (omega arith) (omega arith) (omega arith) in
      omega (arith, p))
]

-- the larger number of a vector has a digit that is kept
pub short_above : (u v : ℤ) (h n : ℕ) → n ≡ max (nat_abs u) (nat_abs v) → 2 ^ h ≤ n → 0 < nat_abs (shortened h u) + nat_abs (shortened h v)
short_above u v h n e l = elim (cases_lt (nat_abs u) (nat_abs v)) [
  | inl m ↦ (let p = not_zero (2 ^ h) v (pow_pos h) (omega arith) in omega (arith, p))
  | inr m ↦ (let p = not_zero (2 ^ h) u (pow_pos h) (omega arith) in omega (arith, p))
]

pub unit_above : (u v : ℤ) → 0 < nat_abs u + nat_abs v → 0 < nat_abs (unit u v).x + nat_abs (unit u v).y
unit_above u v p =
    let n : ℕ = max (nat_abs u) (nat_abs v) in
    let l = surplus_at_least 96 n (omega arith) in
    let h : ℕ = surplus_of u v in
    direction_above (record { x = shortened h u; y = shortened h v }) (short_above u v h n refl l)
