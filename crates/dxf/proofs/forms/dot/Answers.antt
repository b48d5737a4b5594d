use Rattle.std.proofs.Common.{◌+ℤ◌, FitsSigned, arith}
use mir.Syntax.{w32, w64}
use Rattle.std.proofs.lemmas.Int.{ints, to_z-of_z}
use Rattle.dxf.proofs.forms.dot.Goals as goal

pub returns-clause-value : goal.returns-clause-value
returns-clause-value c =
    let u = c.args.u in
    let v = c.args.v in
    let hux = c.requires.ux in
    let huy = c.requires.uy in
    let hvx = c.requires.vx in
    let hvy = c.requires.vy in
    let pm = c.product.ensures.most in
    let qm = c.product-2.ensures.most in
    let fp : FitsSigned w64 c.product.result = omega (arith, ints) in
    let fq : FitsSigned w64 c.product-2.result = omega (arith, ints) in
    let fd : FitsSigned w64 (c.product.result +ℤ c.product-2.result) = omega (arith, ints) in
    let fux : FitsSigned w32 u.x = omega (arith, ints) in
    let fuy : FitsSigned w32 u.y = omega (arith, ints) in
    let fvx : FitsSigned w32 v.x = omega (arith, ints) in
    let fvy : FitsSigned w32 v.y = omega (arith, ints) in
    let p = simp to_z-of_z at c.product.ensures.value in
    let q = simp to_z-of_z at c.product-2.ensures.value in
    simp to_z-of_z (λ i. p i +ℤ q i)

pub returns-clause-most : goal.returns-clause-most
returns-clause-most c =
    let pm = c.product.ensures.most in
    let qm = c.product-2.ensures.most in
    let fp : FitsSigned w64 c.product.result = omega (arith, ints) in
    let fq : FitsSigned w64 c.product-2.result = omega (arith, ints) in
    let fd : FitsSigned w64 (c.product.result +ℤ c.product-2.result) = omega (arith, ints) in
    simp to_z-of_z (omega (arith, ints))
