-- No sine is above 1, which is 10,000,000 ten-millionths.
use Rattle.std.proofs.Common.{refl, ◌≡◌, ◌≤◌, ◌<◌, ◌+◌, ◌-◌, ◌*◌, ◌/◌, ◌%◌, ◌&&◌, ℕ, zero, suc, List, [], ◌∷◌, Bool, true, nat_le, slice_index_or, arith}
use Rattle.std.proofs.lemmas.Bool.{and_parts}
use Rattle.std.proofs.lemmas.Bool.Decides.{nat_tests}
use Rattle.std.proofs.Math.Nat.{mul-le-mul_right}
use Rattle.plot_arc.specs.declared.sines.TheConstants.{SINES}
use Rattle.plot_arc.specs.Arcs.{sine_of_degrees, sine_to_90}

all_at_most : ℕ → List ℕ → Bool
all_at_most m [] = true
all_at_most m (x ∷ xs) = nat_le x m && all_at_most m xs

one_at_most : (m : ℕ) (xs : List ℕ) (i : ℕ) → all_at_most m xs ≡ true → slice_index_or xs i 0 ≤ m
unfolding all_at_most
one_at_most m [] i e = omega arith
one_at_most m (x ∷ xs) zero e = let p = and_parts (nat_le x m) (all_at_most m xs) e in let q = p.0 in grind (arith, nat_tests)
one_at_most m (x ∷ xs) (suc i) e = let p = and_parts (nat_le x m) (all_at_most m xs) e in one_at_most m xs i p.1

pub of_degrees : (d : ℕ) → sine_of_degrees d ≤ 10000
unfolding all_at_most
of_degrees d = one_at_most 10000 SINES d refl

pub between : (a b p : ℕ) → a ≤ 10000 → b ≤ 10000 → p < 1000 → a * (1000 - p) + b * p ≤ 10000000
between a b p h k l =
    let m : a * (1000 - p) ≤ 10000 * (1000 - p) = mul-le-mul_right (1000 - p) h in
    let n : b * p ≤ 10000 * p = mul-le-mul_right p k in
    omega arith

pub to_90 : (t : ℕ) → sine_to_90 t ≤ 10000000
to_90 t = between (sine_of_degrees (t / 1000)) (sine_of_degrees (t / 1000 + 1)) (t % 1000) (of_degrees (t / 1000)) (of_degrees (t / 1000 + 1)) (omega arith)
