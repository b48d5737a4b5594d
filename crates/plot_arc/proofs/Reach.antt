-- How far the end of a chord may lie from the centre.
use Rattle.std.proofs.Common.{inl, inr, ◌≤◌, ◌-◌, ◌+◌, ◌*◌, ℕ, nat_le, if◌then◌else◌, ℤ, pos, neg_ℤ, nat_abs, ◌+ℤ◌, ◌-ℤ◌, ◌*ℤ◌, arith}
use Rattle.std.proofs.lemmas.Bool.{cases_Bool}
use Rattle.std.proofs.lemmas.Int.{ints}
use Rattle.std.specs.Int.{int_rem_euclid}
use Rattle.exact.proofs.Fit.{product_within}
use Rattle.exact.proofs.Rounding.{meets_lem}
use Rattle.exact.specs.declared.spot.Spot.{Spot}
use Rattle.plot_arc.specs.Arcs.{sine_to_90, sine_to_360, sine_of, cosine_of, vector, nearest, turned_x, turned_y}
use Rattle.plot_arc.specs.Laws.{ten_millionths}
use Rattle.plot_arc.proofs.SineRange.{to_90}

-- the steps of the definition, over any first quarter that is at most m
half_in : (f : ℕ → ℕ) (m t : ℕ) → ((k : ℕ) → f k ≤ m) → (if nat_le t 90000 then f t else f (180000 - t)) ≤ m
half_in f m t h = elim (cases_Bool (nat_le t 90000)) [
  | inl e ↦ rw e (h t)
  | inr e ↦ rw e (h (180000 - t))
]

minus_in : (n m : ℕ) → n ≤ m → nat_abs (neg_ℤ (pos n)) ≤ m
minus_in n m h = omega (arith, ints)

whole_in : (g : ℕ → ℕ) (m t : ℕ) → ((k : ℕ) → g k ≤ m) → nat_abs (if nat_le t 180000 then pos (g t) else neg_ℤ (pos (g (t - 180000)))) ≤ m
whole_in g m t h = elim (cases_Bool (nat_le t 180000)) [
  | inl e ↦ rw e (h t)
  | inr e ↦ rw e (minus_in (g (t - 180000)) m (h (t - 180000)))
]

to_360 : (t : ℕ) → nat_abs (sine_to_360 t) ≤ 10000000
to_360 t = whole_in (λ (k : ℕ). if nat_le k 90000 then sine_to_90 k else sine_to_90 (180000 - k)) 10000000 t
    (λ k. half_in sine_to_90 10000000 k to_90)

pub sine_in : (t : ℤ) → nat_abs (sine_of t) ≤ 10000000
sine_in t = to_360 (nat_abs (int_rem_euclid t (pos 360000)))

nearest_in : (z : ℤ) (m : ℕ) → nat_abs z ≤ m * 10000000 → nat_abs (nearest z) ≤ m
nearest_in z m h =
    let r = meets_lem (ten_millionths z) (omega arith) in
    let a = r.least in
    let b = r.most in
    omega (arith, ints)

sum_in : (x y s k : ℤ) → nat_abs s ≤ 10000000 → nat_abs k ≤ 10000000 → nat_abs (x *ℤ s +ℤ y *ℤ k) ≤ (nat_abs x + nat_abs y) * 10000000
sum_in x y s k h i =
    let p = product_within x s (nat_abs x) 10000000 (omega arith) h in
    let q = product_within y k (nat_abs y) 10000000 (omega arith) i in
    omega (arith, ints)

difference_in : (x y s k : ℤ) → nat_abs s ≤ 10000000 → nat_abs k ≤ 10000000
    → nat_abs (x *ℤ k -ℤ y *ℤ s) ≤ (nat_abs x + nat_abs y) * 10000000
difference_in x y s k h i =
    let p = product_within x k (nat_abs x) 10000000 (omega arith) i in
    let q = product_within y s (nat_abs y) 10000000 (omega arith) h in
    omega (arith, ints)

-- in x and in y at most as far as both parts of the vector together
pub record IsReached (centre from : Spot) (t : ℤ) : Type 0 where
  pub x : nat_abs (nearest (turned_x (vector centre from) t)) ≤ nat_abs (from.x -ℤ centre.x) + nat_abs (from.y -ℤ centre.y)
  pub y : nat_abs (nearest (turned_y (vector centre from) t)) ≤ nat_abs (from.x -ℤ centre.x) + nat_abs (from.y -ℤ centre.y)

pub is_reached : (centre from : Spot) (t : ℤ) → IsReached centre from t
is_reached centre from t =
    let vx = from.x -ℤ centre.x in
    let vy = from.y -ℤ centre.y in
    record {
      x = nearest_in (turned_x (vector centre from) t) (nat_abs vx + nat_abs vy)
          (difference_in vx vy (sine_of t) (cosine_of t) (sine_in t) (sine_in (t +ℤ pos 90000)));
      y = nearest_in (turned_y (vector centre from) t) (nat_abs vx + nat_abs vy)
          (sum_in vx vy (sine_of t) (cosine_of t) (sine_in t) (sine_in (t +ℤ pos 90000)));
    }
