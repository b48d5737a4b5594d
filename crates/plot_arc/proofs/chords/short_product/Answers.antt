use Rattle.std.proofs.Common.{◌^◌, ◌*ℤ◌, refl, FitsSigned, arith}
use mir.Syntax.{w64}
use Rattle.std.proofs.lemmas.Int.{ints, to_z-of_z}
use Rattle.exact.proofs.Fit.{product_within}
use Rattle.plot_arc.proofs.chords.short_product.Goals as goal

pub returns-clause-value : goal.returns-clause-value
returns-clause-value c =
    let a = c.args.a in
    let p = c.args.p in
    let fa : FitsSigned w64 a = c.ranges.a in
    let fp : FitsSigned w64 p = c.ranges.p in
    let m = product_within a p (2 ^ 37) 10000000 c.requires.a_in c.requires.p_in in
    let fm : FitsSigned w64 (a *ℤ p) = omega (arith, ints) in
    simp to_z-of_z refl

pub returns-clause-most : goal.returns-clause-most
returns-clause-most c =
    let a = c.args.a in
    let p = c.args.p in
    let fa : FitsSigned w64 a = c.ranges.a in
    let fp : FitsSigned w64 p = c.ranges.p in
    let m = product_within a p (2 ^ 37) 10000000 c.requires.a_in c.requires.p_in in
    let fm : FitsSigned w64 (a *ℤ p) = omega (arith, ints) in
    simp to_z-of_z m
