-- The height of letters: what divides the square of a cross product is not far below it.
use Rattle.std.proofs.Common.{◌≡◌, ◌∙◌, ℕ, ◌+◌, ◌-◌, ◌*◌, ◌/◌, ◌%◌, ◌^◌, ◌<◌, ◌≤◌, ℤ, ◌+ℤ◌, ◌-ℤ◌, ◌*ℤ◌, nat_abs, max, ap, sym, inl, inr, arith}
use Rattle.std.proofs.Math.Nat.{add-mul-div_right, div-add-mod}
use Rattle.std.proofs.lemmas.Bool.{cases_lt}
use Rattle.std.proofs.lemmas.Int.{ints}
use Rattle.std.proofs.lemmas.Nat.{mul-le}
use Rattle.exact.proofs.Fit.{product_within}
use Rattle.exact.proofs.Ring.{square_is}

-- the square of a sum is at most twice the squares
squares_from : (m k n : ℕ) → n ≡ m + k → (m + n) * (m + n) ≤ 2 * (m * m + n * n)
squares_from m k n e = rw e (omega arith)

squares : (m n : ℕ) → (m + n) * (m + n) ≤ 2 * (m * m + n * n)
squares m n = elim (cases_lt m n) [
  | inl l ↦ squares_from m (n - m) n (omega (arith, l))
  | inr l ↦ (let h = squares_from n (m - n) m (omega (arith, l)) in omega (arith, h))
]

square_size : (a b : ℤ) → nat_abs (a *ℤ a +ℤ b *ℤ b) ≡ nat_abs a * nat_abs a + nat_abs b * nat_abs b
square_size a b = λ i. nat_abs (square_is a i +ℤ square_is b i)

many : (m n : ℕ) → (m * 2 ^ 28 + n * 2 ^ 28) * (m * 2 ^ 28 + n * 2 ^ 28) ≡ 2 ^ 56 * ((m + n) * (m + n))
many m n = omega arith

pub cross_in : (a b c d : ℤ) → nat_abs c ≤ 2 ^ 28 → nat_abs d ≤ 2 ^ 28
    → nat_abs (a *ℤ d -ℤ b *ℤ c) * nat_abs (a *ℤ d -ℤ b *ℤ c) ≤ 2 ^ 57 * max (nat_abs (a *ℤ a +ℤ b *ℤ b)) 1
cross_in a b c d h k =
    let m = nat_abs a in
    let n = nat_abs b in
    let p = product_within a d m (2 ^ 28) (omega arith) k in
    let q = product_within b c n (2 ^ 28) (omega arith) h in
    let x = nat_abs (a *ℤ d -ℤ b *ℤ c) in
    let most : x ≤ m * 2 ^ 28 + n * 2 ^ 28 = omega (arith, ints, p, q) in
    let square = mul-le x x (m * 2 ^ 28 + n * 2 ^ 28) (m * 2 ^ 28 + n * 2 ^ 28) most most in
    let twice = squares m n in
    let size = square_size a b in
    omega (arith, square, many m n, twice, size)

-- the square of so many grains, in parts, over a number that divides the grains first
pub divided_first : (g c s : ℕ) → 0 < s → g * g * (c * c / s) + g * g * (c * c % s) / s ≡ g * c * (g * c) / s
divided_first g c s h =
    let r = c * c % s in
    let q = c * c / s in
    let parts = div-add-mod (c * c) s in
    let whole : g * g * r + (g * g * q) * s ≡ g * c * (g * c) =
    (let e : g * g * r + (g * g * q) * s ≡ g * g * (s * q + r) = omega arith in
    let f : g * g * (c * c) ≡ g * c * (g * c) = omega arith in
    e ∙ ap (λ (x : ℕ). g * g * x) parts ∙ f) in
    let out = add-mul-div_right (g * g * r) (g * g * q) h in
    let swap : g * g * q + g * g * r / s ≡ g * g * r / s + g * g * q = omega arith in
    swap ∙ sym out ∙ ap (λ (x : ℕ). x / s) whole
