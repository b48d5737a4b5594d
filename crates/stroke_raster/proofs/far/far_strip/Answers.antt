use Rattle.std.proofs.Common.{rules, ◌≡◌, ℤ, arith, ◌^◌, ◌-◌, ◌<◌, ◌≤◌, nat_abs, pos, neg_ℤ, ◌*ℤ◌, FitsSigned, cond, int_le, ap, ◌∙◌}
use mir.Syntax.{w64, w128}
use Rattle.std.proofs.lemmas.Int.{ints, to_z-of_z}
use Rattle.stroke_raster.specs.declared.trace.Trace.{Trace}
use Rattle.stroke_raster.specs.declared.vector.Vector.{Vector}
use Rattle.stroke_raster.specs.Gap.{cross}
use Rattle.stroke_raster.proofs.StripLemmas.{Strip, far_outside, outside_before, outside_after}
use Rattle.stroke_raster.proofs.far.far_strip.Goals as goal

pub wide_turned-beside-requires : goal.wide_turned-beside-requires
wide_turned-beside-requires c =
    let f : FitsSigned w128 c.wide_cross.result = search rules in
    let g : FitsSigned w128 (pos 2 *ℤ c.wide_cross.result) = omega (arith, ints, c.wide_cross.ensures.small) in
    simp to_z-of_z (omega (arith, ints, c.wide_cross.ensures.small))

made : (t : Trace) (start : Vector) (x k : ℤ) → x ≡ cross t.course start → k ≡ cond (int_le (pos 0) t.course.y) (pos 2 *ℤ x) (neg_ℤ (pos 2 *ℤ x)) → Strip t start k
made t start x k e h = record {
  some = omega (arith, t.dots.at_least);
  slope = t.sound.slope_is;
  turned = h ∙ ap (λ (z : ℤ). cond (int_le (pos 0) t.course.y) (pos 2 *ℤ z) (neg_ℤ (pos 2 *ℤ z))) e;
}

pub returns-then-unsigned_abs-gt-GREATEST-clause-after : goal.returns-then-unsigned_abs-gt-GREATEST-clause-after
returns-then-unsigned_abs-gt-GREATEST-clause-after c = λ i u v.
    let t = c.args.trace.now in
    let f : FitsSigned w128 c.wide_turned-beside.result = search rules in
    let e = simp to_z-of_z at c.unsigned_abs.ensures.value in
    let fy : FitsSigned w64 c.args.trace.now.course.y = omega (arith, ints, c.args.trace.now.sound.course_in.y) in
    let fc : FitsSigned w128 c.wide_cross.result = search rules in
    let f2 : FitsSigned w128 (pos 2 *ℤ c.wide_cross.result) = omega (arith, ints, c.wide_cross.ensures.small) in
    let m = made c.args.trace.now c.args.start c.wide_cross.result c.wide_turned-beside.result c.wide_cross.ensures.value (simp to_z-of_z at c.wide_turned-beside.ensures.value) in
    far_outside t c.args.start c.wide_turned-beside.result i m t.sound.course_in.y t.sound.slope_is.most_in (omega (arith, v, c.requires.length_in)) (omega (arith, e, c.if-unsigned_abs-gt-GREATEST.true))

pub returns-clause-before : goal.returns-clause-before
returns-clause-before c = λ i u.
    let p = c.args.trace.now.sound.slope_is.most_in in
    let f : FitsSigned w64 c.args.trace.now.slope.most = omega (arith, ints, p) in
    let t : FitsSigned w128 c.wide_turned-beside.result = search rules in
    let e = simp to_z-of_z at c.unsigned_abs.ensures.value in
    let s : FitsSigned w64 c.wide_turned-beside.result = omega (arith, ints, e, c.if-unsigned_abs-gt-GREATEST.false) in
    let k = simp to_z-of_z at (c.within.ensures.before i u) in
    let fy : FitsSigned w64 c.args.trace.now.course.y = omega (arith, ints, c.args.trace.now.sound.course_in.y) in
    let fc : FitsSigned w128 c.wide_cross.result = search rules in
    let f2 : FitsSigned w128 (pos 2 *ℤ c.wide_cross.result) = omega (arith, ints, c.wide_cross.ensures.small) in
    let m = made c.args.trace.now c.args.start c.wide_cross.result c.wide_turned-beside.result c.wide_cross.ensures.value (simp to_z-of_z at c.wide_turned-beside.ensures.value) in
    outside_before c.args.trace.now c.args.start c.wide_turned-beside.result i m k

pub returns-clause-after : goal.returns-clause-after
returns-clause-after c = λ i u v.
    let p = c.args.trace.now.sound.slope_is.most_in in
    let f : FitsSigned w64 c.args.trace.now.slope.most = omega (arith, ints, p) in
    let t : FitsSigned w128 c.wide_turned-beside.result = search rules in
    let e = simp to_z-of_z at c.unsigned_abs.ensures.value in
    let s : FitsSigned w64 c.wide_turned-beside.result = omega (arith, ints, e, c.if-unsigned_abs-gt-GREATEST.false) in
    let k = simp to_z-of_z at (c.within.ensures.after i u v) in
    let fy : FitsSigned w64 c.args.trace.now.course.y = omega (arith, ints, c.args.trace.now.sound.course_in.y) in
    let fc : FitsSigned w128 c.wide_cross.result = search rules in
    let f2 : FitsSigned w128 (pos 2 *ℤ c.wide_cross.result) = omega (arith, ints, c.wide_cross.ensures.small) in
    let m = made c.args.trace.now c.args.start c.wide_cross.result c.wide_turned-beside.result c.wide_cross.ensures.value (simp to_z-of_z at c.wide_turned-beside.ensures.value) in
    outside_after c.args.trace.now c.args.start c.wide_turned-beside.result i m k
