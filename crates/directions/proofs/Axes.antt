-- Directions of short vectors, and along the axes.
use Rattle.std.proofs.Common.{◌≡◌, ℕ, zero, suc, ◌+◌, ◌*◌, ◌/◌, ◌^◌, ◌<◌, ◌≤◌, arith, ◌∙◌, ap, ap₂, refl}
use Rattle.std.proofs.Common.{ℤ, pos, negsuc, neg_ℤ, nat_abs, ◌+ℤ◌, ◌-ℤ◌, ◌*ℤ◌, ◌≤ℤ◌}
use Rattle.std.specs.Prelude.{max}
use Rattle.std.proofs.lemmas.Int.{ints}
use Rattle.std.proofs.lemmas.Nat.{pow_pos}
use Rattle.std.proofs.Math.Nat.{mul-div_cancel}
use Rattle.std.proofs.Math.IntN.{negsuc-*ℤ-pos}
use Rattle.exact.proofs.Ring.{mul-neg_z}
use Rattle.exact.specs.Fraction.{quotient, round}
use Rattle.exact.specs.Roots.{root, root_by}
use Rattle.exact.specs.declared.spot.Spot.{Spot}
use Rattle.directions.specs.Directions.{surplus_of, shortened, short_vector, size_in, with_sign_of, part_in, direction_of, unit, swung, vector_turned}
use Rattle.directions.specs.Laws.{IsPart, UnitsAreNearest, AxesAreExact, right}
use Rattle.directions.specs.declared.turn.Turn.{Turn}
use Rattle.directions.specs.declared.turn.Turn.TheVariants.{None, Quarter, Half, ThreeQuarters}
use Rattle.directions.proofs.Lengths.{surplus_none, surplus_at_least, size_is_nearest}
use Rattle.exact.proofs.Between.{at_most, at_least, exactly}

abbrev vector : ℤ → ℤ → Spot
vector x y = record { x = x; y = y }

-- a vector of few digits is not shortened
short_is : (u v : ℤ) → nat_abs u < 2 ^ 31 → nat_abs v < 2 ^ 31 → short_vector u v ≡ vector u v
short_is u v p q =
    let e : surplus_of u v ≡ 0 = surplus_none 96 (max (nat_abs u) (nat_abs v)) (omega arith) in
    ap (λ (h : ℕ). vector (shortened h u) (shortened h v)) e
    ∙ ap₂ vector (exactly 1 u u (omega arith) (omega (arith, ints))) (exactly 1 v v (omega arith) (omega (arith, ints)))

part_is : (square : ℕ) (a : ℤ) → 0 < square → nat_abs a * nat_abs a ≤ square → IsPart square a (part_in square a)
part_is square (pos n) h k = record { size = size_is_nearest square n h k; sign = omega (arith, ints) }
part_is square (negsuc n) h k =
    let s : ℕ = size_in square (suc n) in
    let e : s ≡ nat_abs (neg_ℤ (pos s)) = omega (arith, ints) in
    let f = mul-neg_z (negsuc n) (pos s) in
    let g = negsuc-*ℤ-pos n s in
    record { size = rw (← e) (size_is_nearest square (suc n) h k); sign = omega (arith, ints) }

-- the square of a vector that is not (0, 0)
square_above : (a b : ℕ) → 0 < a + b → 0 < a * a + b * b
square_above zero zero h = absurd (omega arith)
square_above (suc a) b h = omega arith
square_above zero (suc b) h = omega arith

pub units_are_nearest_lem : UnitsAreNearest
units_are_nearest_lem u v p q h =
    let square : ℕ = nat_abs u * nat_abs u + nat_abs v * nat_abs v in
    let above : 0 < square = square_above (nat_abs u) (nat_abs v) h in
    let e : unit u v ≡ direction_of (vector u v) = ap direction_of (short_is u v p q) in
    rw e (record { x = part_is square u above (omega arith); y = part_is square v above (omega arith) })

-- with the sign of a number that is above or below 0
with_sign_above : (z : ℤ) (n : ℕ) → pos 1 ≤ℤ z → with_sign_of z n ≡ pos n
with_sign_above (pos _) n h = refl
with_sign_above (negsuc _) n h = absurd (omega (arith, ints))

with_sign_below : (z : ℤ) (n : ℕ) → z ≤ℤ negsuc 0 → with_sign_of z n ≡ neg_ℤ (pos n)
with_sign_below (pos _) n h = absurd (omega (arith, ints))
with_sign_below (negsuc _) n h = refl

-- a rounded quotient of at least 1 has the sign of what is divided, and is not 0
record IsSigned (u z : ℤ) : Type 0 where
  sign : (n : ℕ) → with_sign_of z n ≡ with_sign_of u n
  above : 0 < nat_abs z

signed : (k : ℕ) (u : ℤ) → 0 < k → k ≤ nat_abs u → IsSigned u (round (quotient u (pos k)))
signed k (pos m) h p =
    let z : ℤ = round (quotient (pos m) (pos k)) in
    let l : pos 1 ≤ℤ z = at_least k (pos m) (pos 1) h (omega (arith, ints)) in
    record { sign = λ n. with_sign_above z n l; above = omega (arith, ints) }
signed k (negsuc m) h p =
    let e = mul-neg_z (pos k) (pos 1) in
    let z : ℤ = round (quotient (negsuc m) (pos k)) in
    let l : z ≤ℤ negsuc 0 = at_most k (negsuc m) (negsuc 0) h (omega (arith, ints)) in
    record { sign = λ n. with_sign_below z n l; above = omega (arith, ints) }

-- the whole of a length
size_full : (square a : ℕ) → 0 < a → square ≡ a * a → size_in square a ≡ 2 ^ 30
unfolding root_by
size_full square a h e =
    let above : 0 < a * a = omega (arith, square_above a 0 (omega arith)) in
    let q : 2 ^ 62 * (a * a) / (a * a) ≡ 2 ^ 62 = mul-div_cancel (2 ^ 62) above in
    rw e (ap (λ (x : ℕ). (root x + 1) / 2) q)

size_none : (square : ℕ) → 0 < square → size_in square 0 ≡ 0
unfolding root_by
size_none square h = let q : 0 / square ≡ 0 = omega arith in ap (λ (x : ℕ). (root x + 1) / 2) q

part_full : (a : ℤ) (square : ℕ) → 0 < nat_abs a → square ≡ nat_abs a * nat_abs a → part_in square a ≡ with_sign_of a (2 ^ 30)
part_full a square h e = ap (with_sign_of a) (size_full square (nat_abs a) h e)

-- the two parts of a vector along an axis
along_x : (a : ℤ) → 0 < nat_abs a → direction_of (vector a (pos 0)) ≡ vector (with_sign_of a (2 ^ 30)) (pos 0)
along_x a h =
    let square : ℕ = nat_abs a * nat_abs a + 0 * 0 in
    let above : 0 < square = square_above (nat_abs a) 0 (omega arith) in
    ap₂ vector (part_full a square h (omega arith)) (ap pos (size_none square above))

along_y : (a : ℤ) → 0 < nat_abs a → direction_of (vector (pos 0) a) ≡ vector (pos 0) (with_sign_of a (2 ^ 30))
along_y a h =
    let square : ℕ = 0 * 0 + nat_abs a * nat_abs a in
    let above : 0 < square = square_above 0 (nat_abs a) (omega arith) in
    ap₂ vector (ap pos (size_none square above)) (part_full a square h (omega arith))

-- what is shortened keeps its sign, and nothing stays nothing
shortened_signed : (u : ℤ) (n : ℕ) → n ≡ nat_abs u → 0 < n → (h : ℕ) → 2 ^ h ≤ n → IsSigned u (shortened h u)
shortened_signed u n e p h l = signed (2 ^ h) u (pow_pos h) (omega arith)

shortened_none : (h : ℕ) → shortened h (pos 0) ≡ pos 0
shortened_none h = exactly (2 ^ h) (pos 0) (pos 0) (pow_pos h) (omega (arith, ints))

unit_x : (u : ℤ) → 0 < nat_abs u → unit u (pos 0) ≡ vector (with_sign_of u (2 ^ 30)) (pos 0)
unit_x u p =
    let n : ℕ = max (nat_abs u) 0 in
    let h : ℕ = surplus_of u (pos 0) in
    let s = shortened_signed u n (omega arith) (omega arith) h (surplus_at_least 96 n (omega arith)) in
    ap (λ (b : ℤ). direction_of (vector (shortened h u) b)) (shortened_none h)
    ∙ along_x (shortened h u) s.above
    ∙ ap (λ (a : ℤ). vector a (pos 0)) (s.sign (2 ^ 30))

unit_y : (u : ℤ) → 0 < nat_abs u → unit (pos 0) u ≡ vector (pos 0) (with_sign_of u (2 ^ 30))
unit_y u p =
    let n : ℕ = max 0 (nat_abs u) in
    let h : ℕ = surplus_of (pos 0) u in
    let s = shortened_signed u n (omega arith) (omega arith) h (surplus_at_least 96 n (omega arith)) in
    ap (λ (b : ℤ). direction_of (vector b (shortened h u))) (shortened_none h)
    ∙ along_y (shortened h u) s.above
    ∙ ap (λ (a : ℤ). vector (pos 0) a) (s.sign (2 ^ 30))

-- an offset that follows a direction along an axis
whole : (a d : ℤ) → a ≡ pos (2 ^ 30) *ℤ d → round (quotient a (pos (2 ^ 30))) ≡ d
whole a d e = exactly (2 ^ 30) a d (omega arith) e

swung_is : (d o v : Spot) → o.x *ℤ d.x -ℤ o.y *ℤ d.y ≡ pos (2 ^ 30) *ℤ v.x → o.x *ℤ d.y +ℤ o.y *ℤ d.x ≡ pos (2 ^ 30) *ℤ v.y → swung d o ≡ v
swung_is d o v p q = ap₂ vector (whole (o.x *ℤ d.x -ℤ o.y *ℤ d.y) v.x p) (whole (o.x *ℤ d.y +ℤ o.y *ℤ d.x) v.y q)

swings_lem : (t : Turn) (o : Spot) → swung (vector_turned t right) o ≡ vector_turned t o
swings_lem None o = swung_is right o o (omega (arith, ints)) (omega (arith, ints))
swings_lem Quarter o = swung_is (vector_turned Quarter right) o (vector_turned Quarter o) (omega (arith, ints)) (omega (arith, ints))
swings_lem Half o = swung_is (vector_turned Half right) o (vector_turned Half o) (omega (arith, ints)) (omega (arith, ints))
swings_lem ThreeQuarters o = swung_is (vector_turned ThreeQuarters right) o (vector_turned ThreeQuarters o) (omega (arith, ints)) (omega (arith, ints))

pub axes_are_exact_lem : AxesAreExact
axes_are_exact_lem = record { x = unit_x; y = unit_y; swings = swings_lem }
