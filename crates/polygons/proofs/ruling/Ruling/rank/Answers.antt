use Rattle.std.proofs.Common.{FitsSigned, arith}
use mir.Syntax.{w64}
use Rattle.std.proofs.lemmas.Int.{ints, to_z-of_z}
use Rattle.polygons.proofs.Heights.{rank_read}
use Rattle.polygons.proofs.ruling.Ruling.rank.Goals as goal

pub overflow_add-result : goal.overflow_add-result
overflow_add-result c =
    let a = c.product.ensures.most in
    let b = c.product-2.ensures.most in
    let fa : FitsSigned w64 c.product.result = omega (arith, ints) in
    let fb : FitsSigned w64 c.product-2.result = omega (arith, ints) in
    simp to_z-of_z (omega (arith, ints))

pub returns-clause-value : goal.returns-clause-value
returns-clause-value c =
    let self = c.args.self.now in
    rank_read self.lines c.args.place self.cosine self.sine c.x.result c.y.result c.product.result c.product-2.result
    self.cosine_in self.sine_in c.x.ensures.most c.y.ensures.most c.product.ensures.most c.product-2.ensures.most self.cosine_is self.sine_is
    c.x.ensures.value c.y.ensures.value c.product.ensures.value c.product-2.ensures.value
