use Rattle.std.proofs.Common.{◌-ℤ◌, FitsSigned, arith}
use mir.Syntax.{w64}
use Rattle.std.proofs.lemmas.Int.{ints, to_z-of_z}
use Rattle.polygons.proofs.Heights.{height_read, height_back, height_within}
use Rattle.polygons.proofs.ruling.Ruling.height.Goals as goal

pub overflow_sub-x : goal.overflow_sub-x
overflow_sub-x c =
    let a = c.x.ensures.most in
    let b = c.x-2.ensures.most in
    let fa : FitsSigned w64 c.x.result = omega (arith, ints) in
    let fb : FitsSigned w64 c.x-2.result = omega (arith, ints) in
    simp to_z-of_z (omega (arith, ints))

pub overflow_sub-result : goal.overflow_sub-result
overflow_sub-result c =
    let a = c.product-up.ensures.most in
    let b = c.product-across.ensures.most in
    let fa : FitsSigned w64 c.product-up.result = omega (arith, ints) in
    let fb : FitsSigned w64 c.product-across.result = omega (arith, ints) in
    simp to_z-of_z (omega (arith, ints))

pub overflow_mul-result : goal.overflow_mul-result
overflow_mul-result c =
    let a = c.product-up.ensures.most in
    let b = c.product-across.ensures.most in
    let fa : FitsSigned w64 c.product-up.result = omega (arith, ints) in
    let fb : FitsSigned w64 c.product-across.result = omega (arith, ints) in
    let fd : FitsSigned w64 (c.product-up.result -ℤ c.product-across.result) = omega (arith, ints) in
    simp to_z-of_z (omega (arith, ints))

pub returns-clause-value : goal.returns-clause-value
returns-clause-value c =
    let self = c.args.self.now in
    height_read self.lines c.args.place self.cosine self.sine c.y.result c.y-2.result c.x.result c.x-2.result c.product-up.result c.product-across.result
    self.cosine_in self.sine_in c.y.ensures.most c.y-2.ensures.most c.x.ensures.most c.x-2.ensures.most
    c.product-up.ensures.most c.product-across.ensures.most self.cosine_is self.sine_is
    c.y.ensures.value c.y-2.ensures.value c.x.ensures.value c.x-2.ensures.value c.product-up.ensures.value c.product-across.ensures.value

pub returns-clause-most : goal.returns-clause-most
returns-clause-most c =
    rw (height_back c.product-up.result c.product-across.result c.product-up.ensures.most c.product-across.ensures.most)
    (height_within c.product-up.result c.product-across.result c.product-up.ensures.most c.product-across.ensures.most)
