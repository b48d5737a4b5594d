use Rattle.std.proofs.Common.{rules, ◌+ℤ◌, arith, refl, FitsSigned}
use mir.Syntax.{w64, w128}
use Rattle.std.proofs.lemmas.Int.{ints, to_z-of_z}
use Rattle.plot_frame.proofs.Near.{moved_on, moved_to, near_in}
use Rattle.plot_frame.proofs.axis.Axis.moved.Goals as goal

pub overflow_add-result : goal.overflow_add-result
overflow_add-result c =
    let fu = c.ranges.u in
    let ku = near_in c.args.self.now c.args.u c.requires.line c.requires.near in
    let fn : FitsSigned w128 c.from.result = search rules in
    let kn = c.requires.small in
    let fm : FitsSigned w64 c.args.n = omega (arith, ints) in
    let e = simp to_z-of_z at c.from.ensures in
    simp to_z-of_z (rw e (omega (arith, ints)))

pub returns-then-relative-clause-value : goal.returns-then-relative-clause-value
returns-then-relative-clause-value c =
    let fu = c.ranges.u in
    let ku = near_in c.args.self.now c.args.u c.requires.line c.requires.near in
    let fn : FitsSigned w128 c.from.result = search rules in
    let kn = c.requires.small in
    let fm : FitsSigned w64 c.args.n = omega (arith, ints) in
    let e = simp to_z-of_z at c.from.ensures in
    let fs : FitsSigned w128 (c.args.u +ℤ c.from.result) = rw e (omega (arith, ints)) in
    simp to_z-of_z (rw (e, c.if-relative.true) refl)

pub returns-then-relative-clause-near : goal.returns-then-relative-clause-near
returns-then-relative-clause-near c =
    let fu = c.ranges.u in
    let ku = near_in c.args.self.now c.args.u c.requires.line c.requires.near in
    let fn : FitsSigned w128 c.from.result = search rules in
    let kn = c.requires.small in
    let fm : FitsSigned w64 c.args.n = omega (arith, ints) in
    let e = simp to_z-of_z at c.from.ensures in
    let fs : FitsSigned w128 (c.args.u +ℤ c.from.result) = rw e (omega (arith, ints)) in
    simp to_z-of_z (rw e (moved_on c.args.self.now c.args.u c.args.n c.requires.line c.requires.near kn))

pub returns-else-relative-clause-near : goal.returns-else-relative-clause-near
returns-else-relative-clause-near c =
    let kn = c.requires.small in
    let fn : FitsSigned w128 c.from-else-relative.result = search rules in
    let fm : FitsSigned w64 c.args.n = omega (arith, ints) in
    let e = simp to_z-of_z at c.from-else-relative.ensures in
    simp to_z-of_z (rw e (moved_to c.args.self.now c.args.n c.requires.line c.requires.small))
