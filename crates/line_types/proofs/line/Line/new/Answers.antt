use Rattle.std.proofs.Common.{arith, ◌^◌, ◌-ℤ◌, FitsSigned}
use mir.Syntax.{w128}
use Rattle.std.proofs.lemmas.Int.{ints, to_z-of_z}
use Rattle.line_types.proofs.Sizes.{root_in, long_is}
use Rattle.line_types.proofs.line.Line.new.Goals as goal

pub invariant_of-result-clause-long_is : goal.invariant_of-result-clause-long_is
invariant_of-result-clause-long_is c =
    let h = c.requires.from_in in
    let k = c.requires.to_in in
    let hx = h.x_in in
    let hy = h.y_in in
    let kx = k.x_in in
    let ky = k.y_in in
    let from = c.args.from in
    let to = c.args.to in
    let f : FitsSigned w128 (to.x -ℤ from.x) = omega (arith, ints) in
    let g : FitsSigned w128 (to.y -ℤ from.y) = omega (arith, ints) in
    let fx : FitsSigned w128 from.x = omega (arith, ints) in
    let fy : FitsSigned w128 from.y = omega (arith, ints) in
    let gx : FitsSigned w128 to.x = omega (arith, ints) in
    let gy : FitsSigned w128 to.y = omega (arith, ints) in
    long_is from to _ _ _ (simp to_z-of_z at c.unsigned_abs-across.ensures.value) (simp to_z-of_z at c.unsigned_abs-up.ensures.value) c.root-long.ensures.value

pub invariant_of-result-clause-long_in : goal.invariant_of-result-clause-long_in
invariant_of-result-clause-long_in c =
    root_in c.root-long.result 65536 c.unsigned_abs-across.result c.unsigned_abs-up.result (2 ^ 28) c.root-long.ensures.square_in (omega (arith, ints)) (omega (arith, ints)) (2 ^ 37) (omega arith)
