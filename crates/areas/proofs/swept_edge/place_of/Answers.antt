use Rattle.std.proofs.Common.{◌≡◌, ◌≤◌, ◌^◌, nat_abs, pos, ◌+ℤ◌, ◌-ℤ◌, ◌*ℤ◌, ap₂, ℤ, arith, rules, FitsSigned}
use mir.Syntax.{w64, w128}
use Rattle.std.proofs.lemmas.Int.{ints, to_z-of_z}
use Rattle.exact.proofs.Fit.{product_within}
use Rattle.areas.proofs.swept_edge.place_of.Goals as goal
use Rattle.areas.proofs.swept_edge.place_of.Goals.{After-product-2}

-- the two products, and their sum
record AreProducts (c : After-product-2) : Type 0 where
  first : c.product.result ≡ (c.args.x -ℤ pos 8128) *ℤ c.args.rise
  second : c.product-2.result ≡ c.args.run *ℤ c.args.above
  small : nat_abs (c.product.result +ℤ c.product-2.result) ≤ 2 ^ 68
  fits_first : FitsSigned w128 c.product.result
  fits_second : FitsSigned w128 c.product-2.result
  fits : FitsSigned w128 (c.product.result +ℤ c.product-2.result)

products : (c : After-product-2) → AreProducts c
products c =
    let fx : FitsSigned w64 c.args.x = search rules in
    let fr : FitsSigned w64 c.args.rise = search rules in
    let fu : FitsSigned w64 c.args.run = search rules in
    let fa : FitsSigned w64 c.args.above = search rules in
    let fm : FitsSigned w64 (c.args.x -ℤ pos 8128) = omega (arith, ints, c.requires.right) in
    let a : c.product.result ≡ (c.args.x -ℤ pos 8128) *ℤ c.args.rise = simp to_z-of_z at c.product.ensures in
    let b : c.product-2.result ≡ c.args.run *ℤ c.args.above = simp to_z-of_z at c.product-2.ensures in
    let p = product_within (c.args.x -ℤ pos 8128) c.args.rise (2 ^ 39) (2 ^ 28) (omega (arith, ints, c.requires.right)) c.requires.rise in
    let q = product_within c.args.run c.args.above (2 ^ 28) (2 ^ 39) c.requires.run c.requires.above in
    record {
      first = a;
      second = b;
      small = omega (arith, ints, a, b, p, q);
      fits_first = omega (arith, ints, a, p);
      fits_second = omega (arith, ints, b, q);
      fits = omega (arith, ints, a, b, p, q);
    }

pub overflow_add-result : goal.overflow_add-result
overflow_add-result c =
    let p = products c in
    simp (to_z-of_z, p.fits_first, p.fits_second) p.fits

pub returns-clause-value : goal.returns-clause-value
returns-clause-value c =
    let p = products c in
    simp (to_z-of_z, p.fits_first, p.fits_second, p.fits) (ap₂ (λ (a b : ℤ). a +ℤ b) p.first p.second)

pub returns-clause-within : goal.returns-clause-within
returns-clause-within c =
    let p = products c in
    simp (to_z-of_z, p.fits_first, p.fits_second, p.fits) p.small
