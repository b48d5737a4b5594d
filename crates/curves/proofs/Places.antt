-- How far the places on a circle may be from where it begins.
use Rattle.std.proofs.Common.{◌≡◌, ℕ, ◌+◌, ◌*◌, ◌^◌, ◌≤◌, inl, inr, refl, arith, ℤ, pos, nat_abs, ◌*ℤ◌}
use Rattle.std.proofs.lemmas.Bool.{cases_lt}
use Rattle.std.proofs.lemmas.Int.{ints, unsigned_abs-mul}
use Rattle.std.proofs.lemmas.Nat.{mul-le}
use Rattle.exact.specs.declared.spot.Spot.{Spot}
use Rattle.exact.proofs.Fit.{product_within}
use Rattle.directions.specs.Bounds.{IsWithin}
use Rattle.directions.specs.Directions.{square_of}
use Rattle.curves.specs.Vectors.{dot}

pub product_below : (p q : ℕ) → p * q ≤ p * p + q * q
product_below p q = elim (cases_lt p q) [
  | inl l ↦ (let m : p * q ≤ q * q = mul-le p q q q (omega arith) (omega arith) in omega (arith, m))
  | inr l ↦ (let m : p * q ≤ p * p = mul-le p q p p (omega arith) (omega arith) in omega (arith, m))
]

dot_size : (v d : Spot) → IsWithin (2 ^ 40) v → nat_abs (dot v d) ≤ 2 ^ 40 * (nat_abs d.x + nat_abs d.y)
dot_size v d h =
    let p = product_within v.x d.x (2 ^ 40) (nat_abs d.x) h.x_in (omega arith) in
    let q = product_within v.y d.y (2 ^ 40) (nat_abs d.y) h.y_in (omega arith) in
    omega (arith, ints, p, q)

near_lem : (a x y l s : ℕ) → l ≤ 2 ^ 40 * (x + y) → a * x ≤ s → a * y ≤ s → a * (2 * l) ≤ 256 * s * 2 ^ 34
near_lem a x y l s h p q =
    let m : a * (2 * l) ≤ a * (2 * (2 ^ 40 * (x + y))) = mul-le a (2 * l) a (2 * (2 ^ 40 * (x + y))) (omega arith) (omega arith) in
    omega (arith, m, p, q)

size_is : (a l : ℤ) → nat_abs (a *ℤ (pos 2 *ℤ l)) ≡ nat_abs a * (2 * nat_abs l)
size_is a l = rw (unsigned_abs-mul a (pos 2 *ℤ l), unsigned_abs-mul (pos 2) l) refl

pub near_x : (v d : Spot) → IsWithin (2 ^ 40) v → nat_abs (d.x *ℤ (pos 2 *ℤ dot v d)) ≤ 256 * square_of d * 2 ^ 34
near_x v d h =
    let m = product_below (nat_abs d.x) (nat_abs d.y) in
    rw (size_is d.x (dot v d)) (near_lem (nat_abs d.x) (nat_abs d.x) (nat_abs d.y) (nat_abs (dot v d)) (square_of d) (dot_size v d h) (omega arith) (omega (arith, m)))

pub near_y : (v d : Spot) → IsWithin (2 ^ 40) v → nat_abs (d.y *ℤ (pos 2 *ℤ dot v d)) ≤ 256 * square_of d * 2 ^ 34
near_y v d h =
    let m = product_below (nat_abs d.x) (nat_abs d.y) in
    rw (size_is d.y (dot v d)) (near_lem (nat_abs d.y) (nat_abs d.x) (nat_abs d.y) (nat_abs (dot v d)) (square_of d) (dot_size v d h) (omega (arith, m)) (omega arith))
