use Rattle.std.proofs.Common.{rules, ◌≤◌, ◌^◌, nat_abs, ◌+ℤ◌, ◌*ℤ◌, FitsSigned, arith}
use mir.Syntax.{w128}
use Rattle.std.proofs.lemmas.Int.{ints, to_z-of_z}
use Rattle.plot_frame.proofs.Near.{round_in}
use Rattle.plot_frame.proofs.axis.Axis.place.Goals as goal

pub returns : goal.returns
returns c =
    let axis = c.args.self.now in
    let l = c.requires.line in
    let ls = l.slope_in in
    let lo = l.offset_in in
    let lu = l.under_in in
    let near = c.requires.near in
    let fs : FitsSigned w128 axis.slope = omega (arith, ints) in
    let fo : FitsSigned w128 axis.offset = omega (arith, ints) in
    let fu : FitsSigned w128 axis.under = omega (arith, ints) in
    let fa = c.ranges.u in
    let fp : FitsSigned w128 (axis.slope *ℤ c.args.u) = omega (arith, ints) in
    let fq : FitsSigned w128 (axis.slope *ℤ c.args.u +ℤ axis.offset) = omega (arith, ints) in
    let fr : FitsSigned w128 c.rounded_place.result = search rules in
    let e = simp to_z-of_z at c.rounded_place.ensures in
    let h : nat_abs (axis.slope *ℤ c.args.u +ℤ axis.offset) ≤ 2 ^ 119 = omega (arith, ints) in
    record {
      value = simp to_z-of_z e;
      bound = simp to_z-of_z (rw e (round_in (axis.slope *ℤ c.args.u +ℤ axis.offset) axis.under l.under_above h));
    }
