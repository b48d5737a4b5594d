use Rattle.std.proofs.Common.{refl, ◌-ℤ◌, FitsSigned, arith}
use mir.Syntax.{w128}
use Rattle.std.proofs.lemmas.Int.{ints, to_z-of_z}
use Rattle.plot_arc.proofs.chords.vector.Goals as goal

pub returns-clause-value : goal.returns-clause-value
returns-clause-value c =
    let from = c.args.from in
    let centre = c.args.centre in
    let h = c.requires.from_in in
    let k = c.requires.centre_in in
    let hx = h.x_in in
    let hy = h.y_in in
    let kx = k.x_in in
    let ky = k.y_in in
    let a : FitsSigned w128 from.x = omega (arith, ints) in
    let b : FitsSigned w128 from.y = omega (arith, ints) in
    let d : FitsSigned w128 centre.x = omega (arith, ints) in
    let e : FitsSigned w128 centre.y = omega (arith, ints) in
    let f : FitsSigned w128 (from.x -ℤ centre.x) = omega (arith, ints) in
    let g : FitsSigned w128 (from.y -ℤ centre.y) = omega (arith, ints) in
    simp to_z-of_z refl
