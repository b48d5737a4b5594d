use Rattle.std.proofs.Common.{refl, ◌-ℤ◌, FitsSigned, arith}
use mir.Syntax.{w128}
use Rattle.std.proofs.lemmas.Int.{ints, to_z-of_z}
use Rattle.curves.proofs.vectors.way.Goals as goal

pub returns : goal.returns
returns c =
    let from = c.args.from in
    let to = c.args.to in
    let h = c.requires.from_in in
    let k = c.requires.to_in in
    let hx = h.x_in in
    let hy = h.y_in in
    let kx = k.x_in in
    let ky = k.y_in in
    let a : FitsSigned w128 from.x = omega (arith, ints) in
    let b : FitsSigned w128 from.y = omega (arith, ints) in
    let d : FitsSigned w128 to.x = omega (arith, ints) in
    let e : FitsSigned w128 to.y = omega (arith, ints) in
    let f : FitsSigned w128 (to.x -ℤ from.x) = omega (arith, ints) in
    let g : FitsSigned w128 (to.y -ℤ from.y) = omega (arith, ints) in
    simp to_z-of_z refl
