use Rattle.std.proofs.Common.{rules, ◌≤ℤ◌, FitsSigned, arith}
use mir.Syntax.{w32, w64}
use Rattle.std.proofs.lemmas.Int.{ints, to_z-of_z}
use Rattle.page_fit.specs.Moves.{shifted}
use Rattle.page_fit.proofs.Moved.{window_by, window_sound}
use Rattle.page_fit.proofs.moves.window_on.Goals as goal

pub returns-clause-value : goal.returns-clause-value
returns-clause-value c =
    let x0 = c.low_edge-x0.result in
    let y0 = c.low_edge-y0.result in
    let x1 = c.high_edge-x1.result in
    let y1 = c.high_edge-y1.result in
    let fx0 : FitsSigned w64 x0 = search rules in
    let fy0 : FitsSigned w64 y0 = search rules in
    let fx1 : FitsSigned w64 x1 = search rules in
    let fy1 : FitsSigned w64 y1 = search rules in
    let s = simp to_z-of_z at c.if-x1-x0.false in
    let t = simp to_z-of_z at c.if-y1-y0.false in
    let a = c.low_edge-x0.ensures.from in
    let b = c.low_edge-y0.ensures.from in
    let d = c.high_edge-x1.ensures.to in
    let e = c.high_edge-y1.ensures.to in
    let i : x0 ≤ℤ x1 = omega (arith, ints) in
    let j : y0 ≤ℤ y1 = omega (arith, ints) in
    let gx0 : FitsSigned w32 x0 = omega (arith, ints) in
    let gy0 : FitsSigned w32 y0 = omega (arith, ints) in
    let gx1 : FitsSigned w32 x1 = omega (arith, ints) in
    let gy1 : FitsSigned w32 y1 = omega (arith, ints) in
    let cx : FitsSigned w64 c.args.corner.x = search rules in
    let cy : FitsSigned w64 c.args.corner.y = search rules in
    let hx0 : FitsSigned w32 c.args.window.x0 = search rules in
    let hy0 : FitsSigned w32 c.args.window.y0 = search rules in
    let hx1 : FitsSigned w32 c.args.window.x1 = search rules in
    let hy1 : FitsSigned w32 c.args.window.y1 = search rules in
    let vx0 = simp to_z-of_z at c.low_edge-x0.ensures.value in
    let vy0 = simp to_z-of_z at c.low_edge-y0.ensures.value in
    let vx1 = simp to_z-of_z at c.high_edge-x1.ensures.value in
    let vy1 = simp to_z-of_z at c.high_edge-y1.ensures.value in
    simp to_z-of_z (window_by c.args.page.now (shifted c.args.corner c.args.window) x0 y0 x1 y1 vx0 vy0 vx1 vy1 s t)

pub returns-clause-sound : goal.returns-clause-sound
returns-clause-sound c =
    let x0 = c.low_edge-x0.result in
    let y0 = c.low_edge-y0.result in
    let x1 = c.high_edge-x1.result in
    let y1 = c.high_edge-y1.result in
    let fx0 : FitsSigned w64 x0 = search rules in
    let fy0 : FitsSigned w64 y0 = search rules in
    let fx1 : FitsSigned w64 x1 = search rules in
    let fy1 : FitsSigned w64 y1 = search rules in
    let s = simp to_z-of_z at c.if-x1-x0.false in
    let t = simp to_z-of_z at c.if-y1-y0.false in
    let a = c.low_edge-x0.ensures.from in
    let b = c.low_edge-y0.ensures.from in
    let d = c.high_edge-x1.ensures.to in
    let e = c.high_edge-y1.ensures.to in
    let i : x0 ≤ℤ x1 = omega (arith, ints) in
    let j : y0 ≤ℤ y1 = omega (arith, ints) in
    let gx0 : FitsSigned w32 x0 = omega (arith, ints) in
    let gy0 : FitsSigned w32 y0 = omega (arith, ints) in
    let gx1 : FitsSigned w32 x1 = omega (arith, ints) in
    let gy1 : FitsSigned w32 y1 = omega (arith, ints) in
    simp to_z-of_z (window_sound x0 y0 x1 y1 a b d e i j)
