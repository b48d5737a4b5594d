use Rattle.std.proofs.Common.{nat_abs, ◌≤◌, ◌^◌, ◌*ℤ◌, ◌≡◌, ap₂, ℤ, ◌∙◌, arith, refl, rules, FitsSigned}
use mir.Syntax.{w64, w128}
use Rattle.std.proofs.lemmas.Int.{ints, to_z-of_z}
use Rattle.exact.proofs.Fit.{product_within}
use Rattle.exact.proofs.product.Goals as goal

pub overflow_mul-result : goal.overflow_mul-result
overflow_mul-result c =
    let fa : FitsSigned w64 c.args.a = search rules in
    let fb : FitsSigned w64 c.args.b = search rules in
    let a = simp to_z-of_z at c.from.ensures in
    let b = simp to_z-of_z at c.from-2.ensures in
    let la : nat_abs c.args.a ≤ 2 ^ 63 = omega (arith, ints, fa) in
    let lb : nat_abs c.args.b ≤ 2 ^ 63 = omega (arith, ints, fb) in
    let p = product_within c.args.a c.args.b (2 ^ 63) (2 ^ 63) la lb in
    let f1 : FitsSigned w128 c.args.a = omega (arith, ints, la) in
    let f2 : FitsSigned w128 c.args.b = omega (arith, ints, lb) in
    rw (a, b) (simp to_z-of_z (omega (arith, ints, p)))

pub returns : goal.returns
returns c =
    let fa : FitsSigned w64 c.args.a = search rules in
    let fb : FitsSigned w64 c.args.b = search rules in
    let a = simp to_z-of_z at c.from.ensures in
    let b = simp to_z-of_z at c.from-2.ensures in
    let la : nat_abs c.args.a ≤ 2 ^ 63 = omega (arith, ints, fa) in
    let lb : nat_abs c.args.b ≤ 2 ^ 63 = omega (arith, ints, fb) in
    let p = product_within c.args.a c.args.b (2 ^ 63) (2 ^ 63) la lb in
    let f1 : FitsSigned w128 c.args.a = omega (arith, ints, la) in
    let f2 : FitsSigned w128 c.args.b = omega (arith, ints, lb) in
    let f3 : FitsSigned w128 (c.args.a *ℤ c.args.b) = omega (arith, ints, p) in
    rw (a, b) (simp to_z-of_z refl)
