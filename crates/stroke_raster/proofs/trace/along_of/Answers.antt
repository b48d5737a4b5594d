use Rattle.std.proofs.Common.{rules, ◌≤◌, arith, ap, nat_abs, ◌*ℤ◌, FitsSigned, ℤ}
use mir.Syntax.{w64}
use Rattle.std.proofs.lemmas.Int.{ints, to_z-of_z}
use Rattle.exact.proofs.Fit.{product_within}
use Rattle.stroke_raster.proofs.trace.along_of.Goals as goal

pub overflow_mul-result : goal.overflow_mul-result
overflow_mul-result c =
    let k : nat_abs c.from.result ≤ 1200 = rw c.from.ensures (omega arith) in
    let p = product_within c.from.result c.args.squared _ _ k (c.requires c.if-is_far.false) in
    let f : FitsSigned w64 c.from.result = search rules in
    let g : FitsSigned w64 c.args.squared = search rules in
    simp to_z-of_z (omega (arith, ints, p))

pub returns-else-is_far : goal.returns-else-is_far
returns-else-is_far c = λ near.
    let k : nat_abs c.from.result ≤ 1200 = rw c.from.ensures (omega arith) in
    let p = product_within c.from.result c.args.squared _ _ k (c.requires near) in
    let f : FitsSigned w64 c.from.result = search rules in
    let g : FitsSigned w64 c.args.squared = search rules in
    let h : FitsSigned w64 (c.from.result *ℤ c.args.squared) = omega (arith, ints, p) in
    simp to_z-of_z (ap (λ (z : ℤ). z *ℤ c.args.squared) c.from.ensures)
