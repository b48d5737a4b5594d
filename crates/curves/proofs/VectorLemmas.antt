-- Bounds of vectors, of their products and of quotients.
use Rattle.std.proofs.Common.{◌≡◌, ℕ, suc, Bool, true, false, ◌+◌, ◌*◌, ◌<◌, ◌≤◌, inl, inr, ap, ap₂, ◌∙◌, arith}
use Rattle.std.proofs.Common.{ℤ, pos, negsuc, neg_ℤ, nat_abs, ◌+ℤ◌, ◌-ℤ◌, ◌*ℤ◌, ◌≤ℤ◌, ◌<ℤ◌}
use Rattle.std.proofs.lemmas.Bool.{cases_lt}
use Rattle.std.proofs.lemmas.Int.{ints}
use Rattle.std.proofs.lemmas.Nat.{mul-le}
use Rattle.exact.specs.declared.spot.Spot.{Spot}
use Rattle.exact.specs.Fraction.{round, quotient}
use Rattle.exact.proofs.Between.{within, not_zero}
use Rattle.exact.proofs.Fit.{product_within}
use Rattle.exact.proofs.Ring.{mul-neg_z, square_is}
use Rattle.directions.specs.Bounds.{IsWithin}
use Rattle.directions.specs.Directions.{square_of}
use Rattle.curves.specs.Bounds.{IsNotZero}
use Rattle.curves.specs.Vectors.{way, sum_of, dot, cross, turned_against}

-- a turn keeps a vector's size
pub turned_within : (clockwise : Bool) (v : Spot) (n : ℕ) → IsWithin n v → IsWithin n (turned_against clockwise v)
turned_within true v n h = let hx = h.x_in in let hy = h.y_in in record { x_in = omega (arith, ints); y_in = hx }
turned_within false v n h = let hx = h.x_in in let hy = h.y_in in record { x_in = hy; y_in = omega (arith, ints) }

pub turned_above : (clockwise : Bool) (v : Spot) → IsNotZero v → IsNotZero (turned_against clockwise v)
turned_above true v h = omega (arith, ints)
turned_above false v h = omega (arith, ints)

pub dot_within : (v w : Spot) (m n : ℕ) → IsWithin m v → IsWithin n w → nat_abs (dot v w) ≤ 2 * (m * n)
dot_within v w m n h k =
    let p = product_within v.x w.x m n h.x_in k.x_in in
    let q = product_within v.y w.y m n h.y_in k.y_in in
    omega (arith, ints, p, q)

pub cross_within : (v w : Spot) (m n : ℕ) → IsWithin m v → IsWithin n w → nat_abs (cross v w) ≤ 2 * (m * n)
cross_within v w m n h k =
    let p = product_within v.x w.y m n h.x_in k.y_in in
    let q = product_within v.y w.x m n h.y_in k.x_in in
    omega (arith, ints, p, q)

pub square_within : (v : Spot) (n : ℕ) → IsWithin n v → square_of v ≤ 2 * (n * n)
square_within v n h =
    let p : nat_abs v.x * nat_abs v.x ≤ n * n = mul-le (nat_abs v.x) (nat_abs v.x) n n h.x_in h.x_in in
    let q : nat_abs v.y * nat_abs v.y ≤ n * n = mul-le (nat_abs v.y) (nat_abs v.y) n n h.y_in h.y_in in
    omega (arith, p, q)

pub square_above : (v : Spot) → IsNotZero v → 0 < square_of v
square_above v h = elim (cases_lt 0 (nat_abs v.x)) [
  | inl l ↦ (let p : 1 * 1 ≤ nat_abs v.x * nat_abs v.x = mul-le 1 1 (nat_abs v.x) (nat_abs v.x) l l in omega (arith, p))
  | inr l ↦ (let m : 1 ≤ nat_abs v.y = omega arith in let p : 1 * 1 ≤ nat_abs v.y * nat_abs v.y = mul-le 1 1 (nat_abs v.y) (nat_abs v.y) m m in omega (arith, p))
]

-- a vector times itself
pub dot_self : (v : Spot) → dot v v ≡ pos (square_of v)
dot_self v = ap₂ (λ (x y : ℤ). x +ℤ y) (square_is v.x) (square_is v.y)

sum_of_negatives : (a b : ℤ) → neg_ℤ a +ℤ neg_ℤ b ≡ neg_ℤ (a +ℤ b)
sum_of_negatives a b = omega (arith, ints)

-- the sum of two directions at most 90 degrees apart, and the difference of two that are more apart
opposite : (p q : Spot) → q.x ≡ neg_ℤ p.x → q.y ≡ neg_ℤ p.y → dot p q ≡ neg_ℤ (dot p p)
opposite p q e f =
    let x : p.x *ℤ q.x ≡ neg_ℤ (p.x *ℤ p.x) = ap (λ (z : ℤ). p.x *ℤ z) e ∙ mul-neg_z p.x p.x in
    let y : p.y *ℤ q.y ≡ neg_ℤ (p.y *ℤ p.y) = ap (λ (z : ℤ). p.y *ℤ z) f ∙ mul-neg_z p.y p.y in
    ap₂ (λ (a b : ℤ). a +ℤ b) x y ∙ sum_of_negatives (p.x *ℤ p.x) (p.y *ℤ p.y)

not_below : (n : ℕ) → 0 < n → pos 0 ≤ℤ neg_ℤ (pos n) → ⊥
not_below n h l = omega (arith, ints)

not_above : (n : ℕ) → pos n <ℤ pos 0 → ⊥
not_above n l = omega (arith, ints)

pub sum_above : (p q : Spot) → IsNotZero p → pos 0 ≤ℤ dot p q → IsNotZero (sum_of p q)
sum_above p q h l = elim (cases_lt 0 (nat_abs (p.x +ℤ q.x) + nat_abs (p.y +ℤ q.y))) [
  | inl m ↦ m
  | inr m ↦ (let e : q.x ≡ neg_ℤ p.x = omega (arith, ints) in
      let f : q.y ≡ neg_ℤ p.y = omega (arith, ints) in
      let d : dot p q ≡ neg_ℤ (pos (square_of p)) = opposite p q e f ∙ ap neg_ℤ (dot_self p) in
      let s = square_above p h in
      absurd (not_below (square_of p) s (rw d at l)))
]

pub way_above : (p q : Spot) → dot p q <ℤ pos 0 → IsNotZero (way p q)
way_above p q l = elim (cases_lt 0 (nat_abs (q.x -ℤ p.x) + nat_abs (q.y -ℤ p.y))) [
  | inl m ↦ m
  | inr m ↦ (let e : q.x ≡ p.x = omega (arith, ints) in
      let f : q.y ≡ p.y = omega (arith, ints) in
      let d : dot p q ≡ pos (square_of p) = ap₂ (λ (x y : ℤ). p.x *ℤ x +ℤ p.y *ℤ y) e f ∙ dot_self p in
      absurd (not_above (square_of p) (rw d at l)))
]

-- a vector beside another that is not on its line is not (0, 0)
pub cross_above : (b c : Spot) → 0 < nat_abs (cross b c) → IsNotZero c
cross_above b c h = elim (cases_lt 0 (nat_abs c.x + nat_abs c.y)) [
  | inl m ↦ m
  | inr m ↦ (let e : c.x ≡ pos 0 = omega (arith, ints) in
      let f : c.y ≡ pos 0 = omega (arith, ints) in
      let g = rw (e, f) at h in
      absurd (omega (arith, ints)))
]

-- a quotient by a number on either side of 0
pub divided_within : (a b : ℤ) (m : ℕ) → 0 < nat_abs b → nat_abs a ≤ nat_abs b * m → nat_abs (round (quotient a b)) ≤ m
divided_within a (pos n) m h l = within n m a h l
divided_within a (negsuc n) m h l = within (suc n) m (neg_ℤ a) (omega arith) (omega (arith, ints))

pub divided_above : (a b : ℤ) → 0 < nat_abs b → nat_abs b ≤ nat_abs a → 0 < nat_abs (round (quotient a b))
divided_above a (pos n) h l = not_zero n a h l
divided_above a (negsuc n) h l = not_zero (suc n) (neg_ℤ a) (omega arith) (omega (arith, ints))
