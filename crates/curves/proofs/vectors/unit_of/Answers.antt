use Rattle.std.proofs.Common.{FitsSigned, arith}
use mir.Syntax.{w128}
use Rattle.std.proofs.lemmas.Int.{ints, to_z-of_z}
use Rattle.curves.proofs.Units.{unit_above}
use Rattle.curves.proofs.vectors.unit_of.Goals as goal

pub returns-clause-not_zero : goal.returns-clause-not_zero
returns-clause-not_zero c =
    let h = c.requires.v_in in
    let hx = h.x_in in
    let hy = h.y_in in
    let fx : FitsSigned w128 c.args.v.x = omega (arith, ints) in
    let fy : FitsSigned w128 c.args.v.y = omega (arith, ints) in
    let e = simp to_z-of_z at c.unit.ensures in
    rw e (unit_above c.args.v.x c.args.v.y c.requires.not_zero)
