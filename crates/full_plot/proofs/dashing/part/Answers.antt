use Rattle.std.proofs.Common.{refl, FitsSigned, arith}
use mir.Syntax.{w32, w128}
use Rattle.std.proofs.lemmas.Int.{ints, to_z-of_z}
use Rattle.full_plot.proofs.dashing.part.Goals as goal

pub returns : goal.returns
returns c =
    let a = c.args.from in
    let b = c.args.to in
    let ax = c.requires.from_in.x_in in
    let ay = c.requires.from_in.y_in in
    let bx = c.requires.to_in.x_in in
    let by = c.requires.to_in.y_in in
    let f1 : FitsSigned w128 a.x = omega (arith, ints) in
    let f2 : FitsSigned w128 a.y = omega (arith, ints) in
    let f3 : FitsSigned w128 b.x = omega (arith, ints) in
    let f4 : FitsSigned w128 b.y = omega (arith, ints) in
    let g1 : FitsSigned w32 a.x = omega (arith, ints) in
    let g2 : FitsSigned w32 a.y = omega (arith, ints) in
    let g3 : FitsSigned w32 b.x = omega (arith, ints) in
    let g4 : FitsSigned w32 b.y = omega (arith, ints) in
    rw (← c.line.view_is) (simp to_z-of_z refl)
