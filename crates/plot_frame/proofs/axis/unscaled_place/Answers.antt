use Rattle.std.proofs.Common.{rules, ◌∙◌, pos, ◌+ℤ◌, ◌*ℤ◌, FitsSigned, arith}
use mir.Syntax.{w64}
use Rattle.std.proofs.lemmas.Int.{ints, to_z-of_z}
use Rattle.exact.proofs.Rounding.{round_by}
use Rattle.plot_frame.proofs.axis.unscaled_place.Goals as goal

pub returns : goal.returns
returns c =
    let u = c.args.u in
    let over = pos 16 *ℤ u +ℤ c.args.offset in
    let ho = c.requires.offset_in in
    let hu = c.requires.u_in in
    let fu : FitsSigned w64 u = c.ranges.u in
    let fo : FitsSigned w64 c.args.offset = c.ranges.offset in
    let fp : FitsSigned w64 (pos 16 *ℤ u) = omega (arith, ints) in
    let fa : FitsSigned w64 over = omega (arith, ints) in
    let ft : FitsSigned w64 (pos 2 *ℤ over) = omega (arith, ints) in
    let fn : FitsSigned w64 (pos 2 *ℤ over +ℤ pos 1000000) = omega (arith, ints) in
    let fr : FitsSigned w64 c.div_euclid.result = search rules in
    let e = simp to_z-of_z at c.div_euclid.ensures in
    simp to_z-of_z (e ∙ round_by over (pos 1000000) (omega (arith, ints)))
