use Rattle.std.proofs.Common.{rules, ◌≡◌, ◌*◌, ◌^◌, ◌≤◌, arith, nat_abs, pos, ◌*ℤ◌, ap, ap₂, subst, refl, ◌∙◌, FitsSigned, ℕ, ℤ, Bool, true, false, ◌&&◌, not}
use mir.Syntax.{w64, w128}
use Rattle.std.proofs.lemmas.Int.{ints, to_z-of_z}
use Rattle.std.proofs.lemmas.Nat.{mul-le}
use Rattle.exact.proofs.Fit.{product_within}
use Rattle.stroke_raster.specs.declared.vector.Vector.{Vector}
use Rattle.stroke_raster.specs.Bounds.{Within}
use Rattle.stroke_raster.specs.Gap.{way, scaled, dot}
use Rattle.stroke_raster.specs.TraceNumbers.{IsSlope}
use Rattle.stroke_raster.proofs.BoundLemmas.{way_within, scaled_within}
use Rattle.stroke_raster.proofs.trace.trace_of.Goals as goal

-- the squared length of a course that is not far
squared_small : (v : Vector) (s : ℤ) → Within (2 ^ 21) v → s ≡ dot v v → nat_abs s ≤ 2 ^ 43
squared_small v s w e =
    let p = product_within v.x v.x _ _ w.x w.x in
    let q = product_within v.y v.y _ _ w.y w.y in
    omega (arith, ints, p, q, e)

both : (a b : Bool) → (a && not b) ≡ true → b ≡ false
both true true h = cc h
both true false h = refl
both false b h = cc h

pub along_of-requires : goal.along_of-requires
along_of-requires c = λ near.
    let fl : FitsSigned w64 c.squared_length-squared.result = search rules in
    simp to_z-of_z (squared_small c.way_between-course.result c.squared_length-squared.result (c.is_far-is_far.ensures near) c.squared_length-squared.ensures.value)

pub overflow_mul-result : goal.overflow_mul-result
overflow_mul-result c =
    let d = c.drawn_width_of-width.result in
    let fl : FitsSigned w64 c.squared_length-squared.result = search rules in
    let e = simp to_z-of_z at c.from-3.ensures in
    let dd = mul-le d d (2 ^ 24) (2 ^ 24) (omega (arith, c.drawn_width_of-width.ensures.small)) (omega (arith, c.drawn_width_of-width.ensures.small)) in
    let r : nat_abs c.from-reach.result ≤ 2 ^ 48 = rw (c.from-reach.ensures, c.from.ensures, c.from-2.ensures) dd in
    let l : nat_abs c.from-3.result ≤ 2 ^ 57 = rw e c.squared_length-squared.ensures.small in
    let p = product_within c.from-reach.result c.from-3.result _ _ r l in
    let f : FitsSigned w128 c.from-reach.result = search rules in
    let g : FitsSigned w128 c.from-3.result = search rules in
    simp to_z-of_z (omega (arith, ints))

pub invariant_of-result : goal.invariant_of-result
invariant_of-result c =
    let d = c.drawn_width_of-width.result in
    let w : Within (2 ^ 28) c.way_between-course.result = rw c.way_between-course.ensures (way_within _ _ _ _ (2 ^ 28) (omega arith) c.first_end_of-from.ensures.small c.last_end_of.ensures.small) in
    let fl : FitsSigned w64 c.squared_length-squared.result = search rules in
    let fa : FitsSigned w64 c.along_of.result = search rules in
    let e = simp to_z-of_z at c.from-3.ensures in
    let dd = mul-le d d (2 ^ 24) (2 ^ 24) (omega (arith, c.drawn_width_of-width.ensures.small)) (omega (arith, c.drawn_width_of-width.ensures.small)) in
    let h : c.from-reach.result ≡ pos (d * d) = c.from-reach.ensures ∙ (rw (c.from.ensures, c.from-2.ensures) refl) in
    let r : nat_abs c.from-reach.result ≤ 2 ^ 48 = rw h dd in
    let l : nat_abs c.from-3.result ≤ 2 ^ 57 = rw e c.squared_length-squared.ensures.small in
    let p = product_within c.from-reach.result c.from-3.result _ _ r l in
    let fr : FitsSigned w128 c.from-reach.result = search rules in
    let f4 : FitsSigned w128 c.from-3.result = search rules in
    let fp : FitsSigned w128 (c.from-reach.result *ℤ c.from-3.result) = omega (arith, ints) in
    record {
      sound = record {
        first_is = c.times.ensures ∙ ap (λ (x : Vector). scaled (pos c.args.dots.resolution) x) c.first_end_of-from.ensures.value;
        first_in = rw c.times.ensures (scaled_within c.args.dots.resolution c.first_end_of-from.result (2 ^ 27) 1200 (3 * 2 ^ 36) (omega arith) (omega arith) c.first_end_of-from.ensures.small);
        course_is = c.way_between-course.ensures ∙ ap₂ way c.first_end_of-from.ensures.value c.last_end_of.ensures.value;
        course_in = w;
        near_in = c.is_far-is_far.ensures;
        scaled_is = c.times-2.ensures;
        scaled_in = rw c.times-2.ensures (scaled_within c.args.dots.resolution c.way_between-course.result (2 ^ 28) 1200 (2 ^ 39) (omega arith) (omega arith) w);
        along_is = λ near. simp to_z-of_z (simp to_z-of_z at (c.along_of.ensures near) ∙ ap (λ (z : ℤ). pos c.args.dots.resolution *ℤ z) c.squared_length-squared.ensures.value);
        reach_is = simp to_z-of_z (h ∙ ap (λ (n : ℕ). pos (n * n)) c.drawn_width_of-width.ensures.value);
        limit_in = simp to_z-of_z (omega (arith, p));
        limit_is = simp to_z-of_z (ap (λ (z : ℤ). c.from-reach.result *ℤ z) (e ∙ c.squared_length-squared.ensures.value));
        slope_is = subst (λ (n : ℕ). IsSlope c.way_between-course.result n c.slope_of.result) c.drawn_width_of-width.ensures.value c.slope_of.ensures;
        small_is_near = both c.args.is_small c.is_far-is_far.result;
      };
    }
