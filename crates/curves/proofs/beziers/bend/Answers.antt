use Rattle.std.proofs.Common.{arith, pos, ◌+ℤ◌, ◌-ℤ◌, ◌*ℤ◌, FitsSigned}
use mir.Syntax.{w128}
use Rattle.std.proofs.lemmas.Int.{ints, to_z-of_z}
use Rattle.curves.proofs.beziers.bend.Goals as goal

pub returns : goal.returns
returns c =
    let a = c.args.a in
    let b = c.args.b in
    let d = c.args.c in
    let ha = c.requires.a_in in
    let hb = c.requires.b_in in
    let hc = c.requires.c_in in
    let fa : FitsSigned w128 a = c.ranges.a in
    let fb : FitsSigned w128 b = c.ranges.b in
    let fc : FitsSigned w128 d = c.ranges.c in
    let f2 : FitsSigned w128 (pos 2 *ℤ b) = omega (arith, ints) in
    let fd : FitsSigned w128 (a -ℤ pos 2 *ℤ b) = omega (arith, ints) in
    let fs : FitsSigned w128 (a -ℤ pos 2 *ℤ b +ℤ d) = omega (arith, ints) in
    simp to_z-of_z at c.unsigned_abs.ensures.value
