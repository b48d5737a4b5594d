use Rattle.std.proofs.Common.{rules, refl, ◌-ℤ◌, FitsSigned, arith}
use mir.Syntax.{w64, w128}
use Rattle.std.proofs.lemmas.Int.{ints, to_z-of_z}
use Rattle.plot_frame.proofs.SideBounds.{side_in}
use Rattle.plot_frame.proofs.sides.side_of.Goals as goal

pub returns : goal.returns
returns c =
    let e = c.args.ends in
    let r = c.args.range in
    let f1 : FitsSigned w64 e.first = search rules in
    let f2 : FitsSigned w64 e.last = search rules in
    let f3 : FitsSigned w64 r.least = search rules in
    let f4 : FitsSigned w64 r.most = search rules in
    let kd = c.requires.ends.distance_in in
    let kl = c.requires.range.least_in in
    let km = c.requires.range.most_in in
    let fd : FitsSigned w64 (e.last -ℤ e.first) = omega (arith, ints) in
    let fa : FitsSigned w64 (r.most -ℤ r.least) = omega (arith, ints) in
    let g1 : FitsSigned w128 c.from.result = search rules in
    let g2 : FitsSigned w128 c.from-2.result = search rules in
    let g3 : FitsSigned w128 c.from-3.result = search rules in
    let g4 : FitsSigned w128 c.from-4.result = search rules in
    let e1 = simp to_z-of_z at c.from.ensures in
    let e2 = simp to_z-of_z at c.from-2.ensures in
    let e3 = simp to_z-of_z at c.from-3.ensures in
    let e4 = simp to_z-of_z at c.from-4.ensures in
    simp to_z-of_z (rw (e1, e2, e3, e4) (record { value = refl; side = side_in e r c.requires.ends c.requires.range; short = kd }))
