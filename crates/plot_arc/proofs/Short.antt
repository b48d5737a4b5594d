-- Numbers that are turned in 64 bits fit their types.
use Rattle.std.proofs.Common.{◌≤◌, ◌^◌, ℤ, ◌+ℤ◌, ◌-ℤ◌, nat_abs, FitsSigned, arith}
use mir.Syntax.{w64, w128}
use Rattle.std.proofs.lemmas.Int.{ints}

pub in_64 : (z : ℤ) → nat_abs z ≤ 2 ^ 36 → FitsSigned w64 z
in_64 z h = omega (arith, ints)

pub in_128 : (z : ℤ) → nat_abs z ≤ 2 ^ 36 → FitsSigned w128 z
in_128 z h = omega (arith, ints)

pub way_in_64 : (z : ℤ) → nat_abs z ≤ 2 ^ 39 → FitsSigned w64 z
way_in_64 z h = omega (arith, ints)

pub way_in_128 : (z : ℤ) → nat_abs z ≤ 2 ^ 39 → FitsSigned w128 z
way_in_128 z h = omega (arith, ints)

pub difference_in_64 : (a b : ℤ) → nat_abs a ≤ 2 ^ 36 → nat_abs b ≤ 2 ^ 36 → FitsSigned w64 (a -ℤ b)
difference_in_64 a b h k = omega (arith, ints)

pub sum_in : (a b : ℤ) → nat_abs a ≤ 2 ^ 36 → nat_abs b ≤ 2 ^ 39 → nat_abs (a +ℤ b) ≤ 2 ^ 40
sum_in a b h k = omega (arith, ints)

pub sum_in_64 : (a b : ℤ) → nat_abs a ≤ 2 ^ 36 → nat_abs b ≤ 2 ^ 39 → FitsSigned w64 (a +ℤ b)
sum_in_64 a b h k = omega (arith, ints)

pub sum_in_128 : (a b : ℤ) → nat_abs a ≤ 2 ^ 36 → nat_abs b ≤ 2 ^ 39 → FitsSigned w128 (a +ℤ b)
sum_in_128 a b h k = omega (arith, ints)
