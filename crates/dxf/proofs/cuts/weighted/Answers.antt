use Rattle.std.proofs.Common.{◌∙◌, ◌+ℤ◌, ◌*ℤ◌, ℤ, pos, FitsSigned, ap, arith}
use mir.Syntax.{w32, w128}
use Rattle.std.proofs.lemmas.Int.{ints, to_z-of_z}
use Rattle.dxf.proofs.cuts.weighted.Goals as goal

pub returns-clause-value : goal.returns-clause-value
returns-clause-value c =
    let ha = c.requires.a in
    let hb = c.requires.b in
    let pm = c.product.ensures.most in
    let qm = c.product-2.ensures.most in
    let fp : FitsSigned w128 c.product.result = omega (arith, ints) in
    let fq : FitsSigned w128 c.product-2.result = omega (arith, ints) in
    let fd : FitsSigned w128 (c.product.result +ℤ c.product-2.result) = omega (arith, ints) in
    let fa : FitsSigned w32 c.args.a = omega (arith, ints) in
    let fb : FitsSigned w32 c.args.b = omega (arith, ints) in
    let d = simp to_z-of_z at c.difference.ensures in
    let fdiff : FitsSigned w32 c.difference.result = omega (arith, ints, d) in
    let p = simp to_z-of_z at c.product.ensures.value in
    let q = simp to_z-of_z at c.product-2.ensures.value in
    let q2 = q ∙ ap (λ (z : ℤ). z *ℤ pos c.args.share.over) d in
    simp to_z-of_z (λ i. p i +ℤ q2 i)
