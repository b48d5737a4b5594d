use Rattle.std.proofs.Common.{rules, ℤ, arith, pos, neg_ℤ, ◌*ℤ◌, FitsSigned, cond, int_le, ap, ◌∙◌}
use mir.Syntax.{w64}
use Rattle.std.proofs.lemmas.Int.{ints, to_z-of_z}
use Rattle.stroke_raster.proofs.StripLemmas.{Strip, outside_before, outside_after}
use Rattle.stroke_raster.proofs.strip.strip.Goals as goal

pub overflow_mul-cross_product : goal.overflow_mul-cross_product
overflow_mul-cross_product c =
    let f : FitsSigned w64 c.cross_product.result = search rules in
    simp to_z-of_z (omega (arith, ints, c.cross_product.ensures.small))

pub turned-beside-requires : goal.turned-beside-requires
turned-beside-requires c =
    let f : FitsSigned w64 c.cross_product.result = search rules in
    let g : FitsSigned w64 (pos 2 *ℤ c.cross_product.result) = omega (arith, ints, c.cross_product.ensures.small) in
    simp to_z-of_z (omega (arith, ints, c.cross_product.ensures.small))

pub within-requires-clause-k_in : goal.within-requires-clause-k_in
within-requires-clause-k_in c =
    let f : FitsSigned w64 c.cross_product.result = search rules in
    let g : FitsSigned w64 (pos 2 *ℤ c.cross_product.result) = omega (arith, ints, c.cross_product.ensures.small) in
    let h : FitsSigned w64 c.turned-beside.result = search rules in
    let e = simp to_z-of_z at c.turned-beside.ensures.small in
    simp to_z-of_z (omega (arith, ints, e, c.cross_product.ensures.small))

made : (c : goal.After-within) → Strip c.args.trace.now c.args.start c.turned-beside.result
made c =
    let w = c.args.trace.now.sound.course_in in
    let fy : FitsSigned w64 c.args.trace.now.course.y = omega (arith, ints, w.y) in
    let fc : FitsSigned w64 c.cross_product.result = search rules in
    let f2 : FitsSigned w64 (pos 2 *ℤ c.cross_product.result) = omega (arith, ints, c.cross_product.ensures.small) in
    let t = simp to_z-of_z at c.turned-beside.ensures.value in
    record {
      some = omega (arith, c.args.trace.now.dots.at_least);
      slope = c.args.trace.now.sound.slope_is;
      turned = t ∙ ap (λ (z : ℤ). cond (int_le (pos 0) c.args.trace.now.course.y) (pos 2 *ℤ z) (neg_ℤ (pos 2 *ℤ z))) c.cross_product.ensures.value;
    }

pub returns-clause-before : goal.returns-clause-before
returns-clause-before c = λ i u.
    let p = c.args.trace.now.sound.slope_is.most_in in
    let f : FitsSigned w64 c.args.trace.now.slope.most = omega (arith, ints, p) in
    let t : FitsSigned w64 c.turned-beside.result = search rules in
    let k = simp to_z-of_z at (c.within.ensures.before i u) in
    outside_before c.args.trace.now c.args.start c.turned-beside.result i (made c) k

pub returns-clause-after : goal.returns-clause-after
returns-clause-after c = λ i u v.
    let p = c.args.trace.now.sound.slope_is.most_in in
    let f : FitsSigned w64 c.args.trace.now.slope.most = omega (arith, ints, p) in
    let t : FitsSigned w64 c.turned-beside.result = search rules in
    let k = simp to_z-of_z at (c.within.ensures.after i u v) in
    outside_after c.args.trace.now c.args.start c.turned-beside.result i (made c) k
