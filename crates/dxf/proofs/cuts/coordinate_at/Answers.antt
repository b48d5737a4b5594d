use Rattle.std.proofs.Common.{◌∙◌, ◌*ℤ◌, ℕ, pos, FitsSigned, ap, arith, rules}
use mir.Syntax.{w32, w128}
use mir.Val.{SFits}
use Rattle.std.proofs.lemmas.Int.{ints, to_z-of_z}
use Rattle.exact.specs.Fraction.{quotient, round}
use Rattle.dxf.proofs.cuts.coordinate_at.Goals as goal

pub returns : goal.returns
returns c =
    let ha = c.requires.a in
    let hb = c.requires.b in
    let w = c.weighted.result in
    let most = c.weighted.ensures.most in
    let few = c.max.type_inv in
    let fa : FitsSigned w32 c.args.a = omega (arith, ints) in
    let fb : FitsSigned w32 c.args.b = omega (arith, ints) in
    let fw : FitsSigned w128 w = omega (arith, ints) in
    let fm : FitsSigned w128 (pos 15625 *ℤ w) = omega (arith, ints) in
    let fr : SFits w128 c.rounded.result = search rules in
    let under = c.from.ensures ∙ ap (λ (n : ℕ). pos n) c.max.ensures in
    let fu : SFits w128 c.from.result = search rules in
    let value = simp to_z-of_z at c.weighted.ensures.value in
    let rounded = simp to_z-of_z at c.rounded.ensures in
    simp to_z-of_z (rounded ∙ (λ i. round (quotient (pos 15625 *ℤ value i) (under i))))
