use Rattle.std.proofs.Common.{rules, refl, ◌∙◌, FitsSigned, arith}
use mir.Syntax.{w64, w128}
use Rattle.std.proofs.lemmas.Int.{ints, to_z-of_z}
use Rattle.plot_frame.proofs.axis.Axis.unscaled_place.Goals as goal

pub returns-clause-value : goal.returns-clause-value
returns-clause-value c =
    let axis = c.args.self.now in
    let h = c.requires.unscaled in
    let ho = h.offset_in in
    let hu = c.requires.short in
    let u128 : FitsSigned w128 c.args.u = c.ranges.u in
    let o128 : FitsSigned w128 axis.offset = omega (arith, ints) in
    let o64 : FitsSigned w64 axis.offset = omega (arith, ints) in
    let u64 : FitsSigned w64 c.args.u = omega (arith, ints) in
    let p64 : FitsSigned w64 c.unscaled_place.result = search rules in
    let f128 : FitsSigned w128 c.from.result = search rules in
    let e = simp to_z-of_z at c.unscaled_place.ensures in
    let f = simp to_z-of_z at c.from.ensures in
    simp to_z-of_z (f ∙ e ∙ rw (h.slope_is, h.under_is) refl)
