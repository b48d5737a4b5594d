-- How large roots, products and quotients are.
use Rattle.std.proofs.Common.{◌≡◌, ℕ, ◌+◌, ◌*◌, ◌<◌, ◌≤◌, inl, inr, arith, ap₂, ◌∙◌, ◌-ℤ◌, nat_abs}
use Rattle.std.proofs.lemmas.Bool.{cases_lt}
use Rattle.std.proofs.lemmas.Nat.{mul-le}
use Rattle.exact.specs.Roots.{root}
use Rattle.exact.specs.declared.spot.Spot.{Spot}
use Rattle.line_types.specs.Lines.{long_of}

-- a number whose square is below that of b is below b
pub below_root : (n r b : ℕ) → r * r ≤ n → n < b * b → r < b
below_root n r b h k = elim (cases_lt r b) [
  | inl l ↦ l
  | inr l ↦ (let m : b * b ≤ r * r = mul-le b b r r l l in absurd (omega (arith, h, k)))
]

-- the root of a number of ticks, by the two sides of a right angle
pub root_in : (r k d e m : ℕ) → r * r ≤ k * (d * d + e * e) → d ≤ m → e ≤ m → (b : ℕ) → k * (m * m + m * m) < b * b → r < b
root_in r k d e m h p q b l =
    let s : k * (d * d + e * e) ≤ k * (m * m + m * m) =
    mul-le k (d * d + e * e) k (m * m + m * m) (omega arith) (omega (arith, mul-le d d m m p p, mul-le e e m m q q)) in
    below_root (k * (d * d + e * e)) r b h (omega (arith, s, l))

-- the length of a line by its two sides
pub long_is : (a b : Spot) (u v r : ℕ) → u ≡ nat_abs (b.x -ℤ a.x) → v ≡ nat_abs (b.y -ℤ a.y) → r ≡ root (65536 * (u * u + v * v)) → r ≡ long_of a b
long_is a b u v r p q e = e ∙ ap₂ (λ (x y : ℕ). root (65536 * (x * x + y * y))) p q
