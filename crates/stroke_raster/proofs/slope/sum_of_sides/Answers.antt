use Rattle.std.proofs.Common.{arith, FitsSigned}
use mir.Syntax.{w64}
use Rattle.std.proofs.lemmas.Int.{ints, to_z-of_z}
use Rattle.stroke_raster.proofs.StripLemmas.{sides_enough}
use Rattle.stroke_raster.proofs.slope.sum_of_sides.Goals as goal

pub returns-clause-enough : goal.returns-clause-enough
returns-clause-enough c =
    let f : FitsSigned w64 c.args.way.x = omega (arith, ints, c.requires.x) in
    let g : FitsSigned w64 c.args.way.y = omega (arith, ints, c.requires.y) in
    let a = simp to_z-of_z at c.unsigned_abs.ensures.value in
    let b = simp to_z-of_z at c.unsigned_abs-2.ensures.value in
    sides_enough c.args.way c.unsigned_abs.result c.unsigned_abs-2.result _ a b (omega (arith, a, b, c.requires.x, c.requires.y))
