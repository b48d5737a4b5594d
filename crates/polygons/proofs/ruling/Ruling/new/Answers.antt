use Rattle.std.proofs.Common.{ℤ, pos, ◌+ℤ◌, ap, ◌∙◌, rules, FitsSigned, arith}
use mir.Syntax.{w32, w64}
use Rattle.std.proofs.lemmas.Int.{ints, to_z-of_z}
use Rattle.plot_arc.specs.Arcs.{sine_of}
use Rattle.polygons.proofs.ruling.Ruling.new.Goals as goal

pub invariant_of-result-clause-cosine_is : goal.invariant_of-result-clause-cosine_is
invariant_of-result-clause-cosine_is c =
    let m = c.sine.ensures.most in
    let f : FitsSigned w32 c.args.lines.angle = search rules in
    let e = simp to_z-of_z at c.from-angle.ensures in
    let g : FitsSigned w64 c.from-angle.result = omega (arith, ints, e) in
    let h : FitsSigned w64 (c.from-angle.result +ℤ pos 90000) = omega (arith, ints, e) in
    let r : FitsSigned w64 c.sine.result = omega (arith, ints) in
    let v = simp to_z-of_z at c.sine.ensures.value in
    simp to_z-of_z (v ∙ ap (λ (z : ℤ). sine_of (z +ℤ pos 90000)) e)

pub invariant_of-result-clause-sine_is : goal.invariant_of-result-clause-sine_is
invariant_of-result-clause-sine_is c =
    let m = c.sine-2.ensures.most in
    let f : FitsSigned w32 c.args.lines.angle = search rules in
    let e = simp to_z-of_z at c.from-angle.ensures in
    let g : FitsSigned w64 c.from-angle.result = omega (arith, ints, e) in
    let r : FitsSigned w64 c.sine-2.result = omega (arith, ints) in
    let v = simp to_z-of_z at c.sine-2.ensures.value in
    simp to_z-of_z (v ∙ ap sine_of e)
