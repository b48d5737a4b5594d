use Rattle.std.proofs.Common.{refl, ◌∙◌, ◌+ℤ◌, ◌-ℤ◌, FitsSigned, arith}
use mir.Syntax.{w64, w128}
use Rattle.std.proofs.lemmas.Int.{ints, to_z-of_z}
use Rattle.plot_arc.proofs.chords.short_turned.Goals as goal

pub short_nearest-requires : goal.short_nearest-requires
short_nearest-requires c =
    let pm = c.short_product.ensures.most in
    let qm = c.short_product-2.ensures.most in
    let fp : FitsSigned w64 c.short_product.result = omega (arith, ints) in
    let fq : FitsSigned w64 c.short_product-2.result = omega (arith, ints) in
    let fd : FitsSigned w64 (c.short_product.result -ℤ c.short_product-2.result) = omega (arith, ints) in
    simp to_z-of_z (omega (arith, ints))

pub overflow_add-short_product : goal.overflow_add-short_product
overflow_add-short_product c =
    let pm = c.short_product-3.ensures.most in
    let qm = c.short_product-4.ensures.most in
    let fp : FitsSigned w64 c.short_product-3.result = omega (arith, ints) in
    let fq : FitsSigned w64 c.short_product-4.result = omega (arith, ints) in
    simp to_z-of_z (omega (arith, ints))

pub returns-clause-x : goal.returns-clause-x
returns-clause-x c =
    let hx = c.requires.x_in in
    let hy = c.requires.y_in in
    let hs = c.requires.sine_in in
    let hk = c.requires.cosine_in in
    let fx : FitsSigned w64 c.args.x = c.ranges.x in
    let fy : FitsSigned w64 c.args.y = c.ranges.y in
    let fs : FitsSigned w64 c.args.by.sine = omega (arith, ints) in
    let fk : FitsSigned w64 c.args.by.cosine = omega (arith, ints) in
    let pm = c.short_product.ensures.most in
    let qm = c.short_product-2.ensures.most in
    let fp : FitsSigned w64 c.short_product.result = omega (arith, ints) in
    let fq : FitsSigned w64 c.short_product-2.result = omega (arith, ints) in
    let fd : FitsSigned w64 (c.short_product.result -ℤ c.short_product-2.result) = omega (arith, ints) in
    let nm = c.short_nearest.ensures.most in
    let fn : FitsSigned w128 c.short_nearest.result = omega (arith, ints) in
    let p = simp to_z-of_z at c.short_product.ensures.value in
    let q = simp to_z-of_z at c.short_product-2.ensures.value in
    let n = simp to_z-of_z at c.short_nearest.ensures.value in
    simp to_z-of_z (n ∙ rw (p, q) refl)

pub returns-clause-y : goal.returns-clause-y
returns-clause-y c =
    let hx = c.requires.x_in in
    let hy = c.requires.y_in in
    let hs = c.requires.sine_in in
    let hk = c.requires.cosine_in in
    let fx : FitsSigned w64 c.args.x = c.ranges.x in
    let fy : FitsSigned w64 c.args.y = c.ranges.y in
    let fs : FitsSigned w64 c.args.by.sine = omega (arith, ints) in
    let fk : FitsSigned w64 c.args.by.cosine = omega (arith, ints) in
    let pm = c.short_product-3.ensures.most in
    let qm = c.short_product-4.ensures.most in
    let fp : FitsSigned w64 c.short_product-3.result = omega (arith, ints) in
    let fq : FitsSigned w64 c.short_product-4.result = omega (arith, ints) in
    let fd : FitsSigned w64 (c.short_product-3.result +ℤ c.short_product-4.result) = omega (arith, ints) in
    let nm = c.short_nearest-2.ensures.most in
    let fn : FitsSigned w128 c.short_nearest-2.result = omega (arith, ints) in
    let p = simp to_z-of_z at c.short_product-3.ensures.value in
    let q = simp to_z-of_z at c.short_product-4.ensures.value in
    let n = simp to_z-of_z at c.short_nearest-2.ensures.value in
    simp to_z-of_z (n ∙ rw (p, q) refl)
