use Rattle.std.proofs.Common.{◌≡◌, ◌^◌, ◌≤◌, ◌*◌, arith, nat_abs, ℤ, pos, ◌-ℤ◌, ◌*ℤ◌, FitsSigned}
use mir.Syntax.{w128}
use Rattle.std.proofs.lemmas.Int.{ints, to_z-of_z, fits_signed_from_abs}
use Rattle.std.proofs.lemmas.Nat.{mul-le}
use Rattle.exact.proofs.Fit.{product_within}
use Rattle.exact.specs.Fraction.{round, quotient}
use Rattle.curves.proofs.VectorLemmas.{divided_within}
use Rattle.curves.proofs.Products.{AreProducts, products, multiple}
use Rattle.curves.proofs.centre.part.Goals as goal
use Rattle.curves.proofs.centre.part.Goals.{After-divided}

-- what is divided is in range
record IsKnown (k c l b : ℤ) : Type 0 where
  products : AreProducts k c l b
  size : nat_abs (k *ℤ c -ℤ l *ℤ b) ≤ 2 ^ 86

known : (k c l b : ℤ) → nat_abs k ≤ 2 ^ 57 → nat_abs c ≤ 2 ^ 28 → nat_abs l ≤ 2 ^ 57 → nat_abs b ≤ 2 ^ 28 → IsKnown k c l b
known k c l b p q r s =
    let m = product_within k c (2 ^ 57) (2 ^ 28) p q in
    let n = product_within l b (2 ^ 57) (2 ^ 28) r s in
    record {
      products = products k c l b (omega arith) (omega arith) (omega arith) (omega arith);
      size = omega (arith, ints, m, n);
    }

pub overflow_sub-bb : goal.overflow_sub-bb
overflow_sub-bb c =
    let k = known c.args.bb c.args.c c.args.cc c.args.b c.requires.bb_in c.requires.c_in c.requires.cc_in c.requires.b_in in
    rw (k.products.first, k.products.second) k.products.difference_fits

pub overflow_mul-bb-2 : goal.overflow_mul-bb-2
overflow_mul-bb-2 c =
    let k = known c.args.bb c.args.c c.args.cc c.args.b c.requires.bb_in c.requires.c_in c.requires.cc_in c.requires.b_in in
    let m = multiple 256 (2 ^ 86) (c.args.bb *ℤ c.args.c -ℤ c.args.cc *ℤ c.args.b) (omega arith) k.size (omega arith) in
    rw (k.products.first, k.products.second) m.fits

pub divided-requires-clause-a_in : goal.divided-requires-clause-a_in
divided-requires-clause-a_in c =
    let k = known c.args.bb c.args.c c.args.cc c.args.b c.requires.bb_in c.requires.c_in c.requires.cc_in c.requires.b_in in
    let m = multiple 256 (2 ^ 86) (c.args.bb *ℤ c.args.c -ℤ c.args.cc *ℤ c.args.b) (omega arith) k.size (omega arith) in
    rw (k.products.first, k.products.second, m.back) (omega (arith, m.size, k.size))

-- the coordinate is the rounded quotient
is_rounded : (c : After-divided) → c.divided.result ≡ round (quotient (pos 256 *ℤ (c.args.bb *ℤ c.args.c -ℤ c.args.cc *ℤ c.args.b)) c.args.twice)
is_rounded c =
    let k = known c.args.bb c.args.c c.args.cc c.args.b c.requires.bb_in c.requires.c_in c.requires.cc_in c.requires.b_in in
    let m = multiple 256 (2 ^ 86) (c.args.bb *ℤ c.args.c -ℤ c.args.cc *ℤ c.args.b) (omega arith) k.size (omega arith) in
    let e = rw (k.products.first, k.products.second, m.back) at c.divided.ensures in
    let f : FitsSigned w128 c.args.twice = c.ranges.twice in
    simp to_z-of_z at e

most_lem : (c : After-divided) → nat_abs c.divided.result ≤ 2 ^ 95
most_lem c =
    let k = known c.args.bb c.args.c c.args.cc c.args.b c.requires.bb_in c.requires.c_in c.requires.cc_in c.requires.b_in in
    let a : ℤ = c.args.bb *ℤ c.args.c -ℤ c.args.cc *ℤ c.args.b in
    let m = multiple 256 (2 ^ 86) a (omega arith) k.size (omega arith) in
    let l : 1 * 2 ^ 95 ≤ nat_abs c.args.twice * 2 ^ 95 = mul-le 1 (2 ^ 95) (nat_abs c.args.twice) (2 ^ 95) c.requires.not_zero (omega arith) in
    rw (is_rounded c) (divided_within (pos 256 *ℤ a) c.args.twice (2 ^ 95) c.requires.not_zero (omega (arith, m.size, k.size, l)))

pub returns-clause-value : goal.returns-clause-value
returns-clause-value c =
    let f : FitsSigned w128 c.divided.result = fits_signed_from_abs w128 c.divided.result (omega (arith, most_lem c)) in
    simp to_z-of_z (is_rounded c)

pub returns-clause-most : goal.returns-clause-most
returns-clause-most c =
    let f : FitsSigned w128 c.divided.result = fits_signed_from_abs w128 c.divided.result (omega (arith, most_lem c)) in
    simp to_z-of_z (most_lem c)
