use Rattle.std.proofs.Common.{rules, ◌≡◌, ◌<◌, ◌≤◌, ◌^◌, ◌*◌, ℕ, ℤ, pos, nat_abs, ◌*ℤ◌, FitsSigned, arith, refl, ap, sym, false, nat_lt, int_le, ◌∙◌}
use mir.Syntax.{w128}
use Rattle.std.proofs.lemmas.Int.{ints, to_z-of_z}
use Rattle.std.proofs.lemmas.Nat.{mul-le}
use Rattle.std.proofs.lemmas.Bool.Decides.{nat_tests}
use Rattle.exact.proofs.Fit.{product_within}
use Rattle.exact.proofs.Ring.{mul_mul_comm_z, square_is}
use Rattle.stroke_raster.proofs.far.is_far_beside.Goals as goal

-- twice a number, squared
doubled_square : (z : ℤ) → (pos 2 *ℤ z) *ℤ (pos 2 *ℤ z) ≡ pos 4 *ℤ (z *ℤ z)
doubled_square z = mul_mul_comm_z (pos 2) z (pos 2) z

-- the square of a great number is past the limit
great : (z limit : ℤ) → 2 ^ 63 ≤ nat_abs (pos 2 *ℤ z) → nat_abs limit ≤ 2 ^ 105 → int_le (pos 4 *ℤ (z *ℤ z)) limit ≡ false
great z limit h k =
    let n = nat_abs z in
    let m = mul-le (2 ^ 62) (2 ^ 62) n n (omega (arith, ints, h)) (omega (arith, ints, h)) in
    let s = square_is z in
    let f : false ≡ int_le (pos 4 *ℤ (z *ℤ z)) limit = omega (arith, ints, m, s, k) in
    sym f

pub overflow_mul-result : goal.overflow_mul-result
overflow_mul-result c =
    let x = c.wide_cross-beside.result in
    let fx : FitsSigned w128 x = search rules in
    let f2 : FitsSigned w128 (pos 2 *ℤ x) = omega (arith, ints, c.wide_cross-beside.ensures.small) in
    let u = simp to_z-of_z at c.unsigned_abs.ensures.value in
    let n : nat_abs (pos 2 *ℤ x) ≤ 2 ^ 63 = omega (arith, u, c.if-unsigned_abs-lt-GREAT.true) in
    let p = product_within (pos 2 *ℤ x) (pos 2 *ℤ x) _ _ n n in
    simp to_z-of_z (omega (arith, ints, p))

pub returns-then-unsigned_abs-lt-GREAT : goal.returns-then-unsigned_abs-lt-GREAT
returns-then-unsigned_abs-lt-GREAT c =
    let x = c.wide_cross-beside.result in
    let fx : FitsSigned w128 x = search rules in
    let f2 : FitsSigned w128 (pos 2 *ℤ x) = omega (arith, ints, c.wide_cross-beside.ensures.small) in
    let u = simp to_z-of_z at c.unsigned_abs.ensures.value in
    let n : nat_abs (pos 2 *ℤ x) ≤ 2 ^ 63 = omega (arith, u, c.if-unsigned_abs-lt-GREAT.true) in
    let p = product_within (pos 2 *ℤ x) (pos 2 *ℤ x) _ _ n n in
    let fp : FitsSigned w128 ((pos 2 *ℤ x) *ℤ (pos 2 *ℤ x)) = omega (arith, ints, p) in
    let fl : FitsSigned w128 c.args.limit = search rules in
    simp to_z-of_z (ap (λ (z : ℤ). int_le z c.args.limit) (doubled_square x ∙ ap (λ (z : ℤ). pos 4 *ℤ (z *ℤ z)) c.wide_cross-beside.ensures.value))

pub returns-else-unsigned_abs-lt-GREAT : goal.returns-else-unsigned_abs-lt-GREAT
returns-else-unsigned_abs-lt-GREAT c =
    let x = c.wide_cross-beside.result in
    let fx : FitsSigned w128 x = search rules in
    let f2 : FitsSigned w128 (pos 2 *ℤ x) = omega (arith, ints, c.wide_cross-beside.ensures.small) in
    let u = simp to_z-of_z at c.unsigned_abs.ensures.value in
    let a : nat_lt c.unsigned_abs.result (2 ^ 63) ≡ false = grind (arith, nat_tests, c.if-unsigned_abs-lt-GREAT.false) in
    let n : 2 ^ 63 ≤ nat_abs (pos 2 *ℤ x) = omega (arith, u, c.if-unsigned_abs-lt-GREAT.false) in
    a ∙ sym (great x c.args.limit n c.requires.limit_in) ∙ ap (λ (z : ℤ). int_le (pos 4 *ℤ (z *ℤ z)) c.args.limit) c.wide_cross-beside.ensures.value
