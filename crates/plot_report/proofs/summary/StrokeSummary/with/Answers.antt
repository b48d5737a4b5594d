use Rattle.std.proofs.Common.{◌≡◌, ◌<◌, ap, arith, rules}
use Rattle.std.proofs.lemmas.Bool.Decides.{nat_tests}
use Rattle.std.proofs.lemmas.Int.{to_z-of_z}
use mir.Syntax.{w32}
use mir.Val.{SFits}
use Rattle.plot_report.specs.declared.summary.StrokeSummary.{StrokeSummary}
use Rattle.plot_report.proofs.Summaries.{with_one}
use Rattle.plot_report.proofs.summary.StrokeSummary.with.Goals as goal

pub returns-clause-sums : goal.returns-clause-sums
returns-clause-sums c before h =
    let all = c.args.self in
    let one = c.of_one-one.result in
    let x0 : SFits w32 all.least_x = search rules in
    let y0 : SFits w32 all.least_y = search rules in
    let x1 : SFits w32 all.greatest_x = search rules in
    let y1 : SFits w32 all.greatest_y = search rules in
    let u0 : SFits w32 one.least_x = search rules in
    let v0 : SFits w32 one.least_y = search rules in
    let u1 : SFits w32 one.greatest_x = search rules in
    let v1 : SFits w32 one.greatest_y = search rules in
    let r0 : SFits w32 c.min.result = search rules in
    let r1 : SFits w32 c.min-2.result = search rules in
    let r2 : SFits w32 c.max-2.result = search rules in
    let r3 : SFits w32 c.max-3.result = search rules in
    let single : one.strokes ≡ 1 = ap (λ (p : StrokeSummary). p.strokes) c.of_one-one.ensures in
    let e0 = simp to_z-of_z at c.min.ensures.value in
    let e1 = simp to_z-of_z at c.min-2.ensures.value in
    let e2 = simp to_z-of_z at c.max-2.ensures.value in
    let e3 = simp to_z-of_z at c.max-3.ensures.value in
    let some : 0 < all.strokes = grind (arith, nat_tests, c.if-self-eq0.false) in
    with_one all one _ before c.args.stroke.now some h c.of_one-one.ensures (simp to_z-of_z (cc (single, c.max.ensures, e0, e1, e2, e3)))
