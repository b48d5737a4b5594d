use Rattle.std.proofs.Common.{refl, ◌∙◌, ◌+ℤ◌, ◌-ℤ◌, FitsSigned, arith}
use mir.Syntax.{w64, w128}
use Rattle.std.proofs.lemmas.Int.{ints, to_z-of_z}
use Rattle.plot_arc.proofs.chords.long_turned.Goals as goal

pub overflow_sub-product : goal.overflow_sub-product
overflow_sub-product c =
    let pm = c.product.ensures.most in
    let qm = c.product-2.ensures.most in
    let fp : FitsSigned w128 c.product.result = omega (arith, ints) in
    let fq : FitsSigned w128 c.product-2.result = omega (arith, ints) in
    simp to_z-of_z (omega (arith, ints))

pub nearest-requires : goal.nearest-requires
nearest-requires c =
    let pm = c.product.ensures.most in
    let qm = c.product-2.ensures.most in
    let fp : FitsSigned w128 c.product.result = omega (arith, ints) in
    let fq : FitsSigned w128 c.product-2.result = omega (arith, ints) in
    let fd : FitsSigned w128 (c.product.result -ℤ c.product-2.result) = omega (arith, ints) in
    simp to_z-of_z (omega (arith, ints))

pub overflow_add-product : goal.overflow_add-product
overflow_add-product c =
    let pm = c.product-3.ensures.most in
    let qm = c.product-4.ensures.most in
    let fp : FitsSigned w128 c.product-3.result = omega (arith, ints) in
    let fq : FitsSigned w128 c.product-4.result = omega (arith, ints) in
    simp to_z-of_z (omega (arith, ints))

pub returns-clause-x : goal.returns-clause-x
returns-clause-x c =
    let v = c.args.v in
    let hx = c.requires.x_in in
    let hy = c.requires.y_in in
    let hs = c.requires.sine_in in
    let hk = c.requires.cosine_in in
    let fx : FitsSigned w128 v.x = omega (arith, ints) in
    let fy : FitsSigned w128 v.y = omega (arith, ints) in
    let fs : FitsSigned w64 c.args.by.sine = omega (arith, ints) in
    let fk : FitsSigned w64 c.args.by.cosine = omega (arith, ints) in
    let pm = c.product.ensures.most in
    let qm = c.product-2.ensures.most in
    let fp : FitsSigned w128 c.product.result = omega (arith, ints) in
    let fq : FitsSigned w128 c.product-2.result = omega (arith, ints) in
    let fd : FitsSigned w128 (c.product.result -ℤ c.product-2.result) = omega (arith, ints) in
    let nm = c.nearest.ensures.most in
    let fn : FitsSigned w128 c.nearest.result = omega (arith, ints) in
    let p = simp to_z-of_z at c.product.ensures.value in
    let q = simp to_z-of_z at c.product-2.ensures.value in
    let n = simp to_z-of_z at c.nearest.ensures.value in
    simp to_z-of_z (n ∙ rw (p, q) refl)

pub returns-clause-y : goal.returns-clause-y
returns-clause-y c =
    let v = c.args.v in
    let hx = c.requires.x_in in
    let hy = c.requires.y_in in
    let hs = c.requires.sine_in in
    let hk = c.requires.cosine_in in
    let fx : FitsSigned w128 v.x = omega (arith, ints) in
    let fy : FitsSigned w128 v.y = omega (arith, ints) in
    let fs : FitsSigned w64 c.args.by.sine = omega (arith, ints) in
    let fk : FitsSigned w64 c.args.by.cosine = omega (arith, ints) in
    let pm = c.product-3.ensures.most in
    let qm = c.product-4.ensures.most in
    let fp : FitsSigned w128 c.product-3.result = omega (arith, ints) in
    let fq : FitsSigned w128 c.product-4.result = omega (arith, ints) in
    let fd : FitsSigned w128 (c.product-3.result +ℤ c.product-4.result) = omega (arith, ints) in
    let nm = c.nearest-2.ensures.most in
    let fn : FitsSigned w128 c.nearest-2.result = omega (arith, ints) in
    let p = simp to_z-of_z at c.product-3.ensures.value in
    let q = simp to_z-of_z at c.product-4.ensures.value in
    let n = simp to_z-of_z at c.nearest-2.ensures.value in
    simp to_z-of_z (n ∙ rw (p, q) refl)
