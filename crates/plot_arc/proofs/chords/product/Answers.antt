use Rattle.std.proofs.Common.{◌≡◌, ◌*◌, ◌^◌, ◌*ℤ◌, ap, FitsSigned, arith}
use mir.Syntax.{w128}
use Rattle.std.proofs.lemmas.Int.{ints, to_z-of_z}
use Rattle.exact.proofs.Fit.{product_within}
use Rattle.plot_arc.proofs.chords.product.Goals as goal

pub returns-clause-value : goal.returns-clause-value
returns-clause-value c =
    let a = c.args.a in
    let p = c.args.p in
    let ha = c.requires.a_in in
    let hp = c.requires.p_in in
    let gp = c.ranges.p in
    let fa : FitsSigned w128 a = c.ranges.a in
    let e : c.from.result ≡ p = simp to_z-of_z at c.from.ensures in
    let fp : FitsSigned w128 c.from.result = omega (arith, ints) in
    let m = product_within a c.from.result (2 * 10 ^ 24) 10000000 ha (omega (arith, ints)) in
    let fm : FitsSigned w128 (a *ℤ c.from.result) = omega (arith, ints) in
    simp to_z-of_z (ap (λ z. a *ℤ z) e)

pub returns-clause-most : goal.returns-clause-most
returns-clause-most c =
    let a = c.args.a in
    let p = c.args.p in
    let ha = c.requires.a_in in
    let hp = c.requires.p_in in
    let gp = c.ranges.p in
    let fa : FitsSigned w128 a = c.ranges.a in
    let e : c.from.result ≡ p = simp to_z-of_z at c.from.ensures in
    let fp : FitsSigned w128 c.from.result = omega (arith, ints) in
    let m = product_within a c.from.result (2 * 10 ^ 24) 10000000 ha (omega (arith, ints)) in
    let fm : FitsSigned w128 (a *ℤ c.from.result) = omega (arith, ints) in
    simp to_z-of_z m
