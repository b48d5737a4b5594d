use Rattle.std.proofs.Common.{◌≡◌, ◌∙◌, ◌≤◌, max, refl, FitsSigned, arith}
use mir.Syntax.{w32, w128}
use Rattle.std.proofs.lemmas.Int.{ints, to_z-of_z}
use Rattle.hpgl_plot.proofs.Made.{made_stroke}
use Rattle.hpgl_plot.proofs.Sound.{as_far}
use Rattle.hpgl_plot.proofs.plotter.Plotter.line_of_width.Goals as goal

pub invariant_of-result : goal.invariant_of-result
invariant_of-result c =
    let a = c.args.a in
    let b = c.args.b in
    let far = c.args.self.now.sound.range_in.most in
    let ax = c.requires.a_in.x_in in
    let ay = c.requires.a_in.y_in in
    let bx = c.requires.b_in.x_in in
    let by = c.requires.b_in.y_in in
    let f1 : FitsSigned w128 a.x = omega (arith, ints) in
    let f2 : FitsSigned w128 a.y = omega (arith, ints) in
    let f3 : FitsSigned w128 b.x = omega (arith, ints) in
    let f4 : FitsSigned w128 b.y = omega (arith, ints) in
    let g1 : FitsSigned w32 a.x = omega (arith, ints) in
    let g2 : FitsSigned w32 a.y = omega (arith, ints) in
    let g3 : FitsSigned w32 b.x = omega (arith, ints) in
    let g4 : FitsSigned w32 b.y = omega (arith, ints) in
    simp to_z-of_z (made_stroke c.max-pen.result _ _ c.args.self.now.state.window a b (let p : 1 ≤ c.max-pen.result = rw c.max-pen.ensures (omega arith) in p) c.requires.width c.args.self.now.sound.window (as_far _ a c.args.self.now.sound.range_in c.requires.a_in) (as_far _ b c.args.self.now.sound.range_in c.requires.b_in))

pub returns : goal.returns
returns c =
    let a = c.args.a in
    let b = c.args.b in
    let far = c.args.self.now.sound.range_in.most in
    let ax = c.requires.a_in.x_in in
    let ay = c.requires.a_in.y_in in
    let bx = c.requires.b_in.x_in in
    let by = c.requires.b_in.y_in in
    let f1 : FitsSigned w128 a.x = omega (arith, ints) in
    let f2 : FitsSigned w128 a.y = omega (arith, ints) in
    let f3 : FitsSigned w128 b.x = omega (arith, ints) in
    let f4 : FitsSigned w128 b.y = omega (arith, ints) in
    let g1 : FitsSigned w32 a.x = omega (arith, ints) in
    let g2 : FitsSigned w32 a.y = omega (arith, ints) in
    let g3 : FitsSigned w32 b.x = omega (arith, ints) in
    let g4 : FitsSigned w32 b.y = omega (arith, ints) in
    let p : max c.args.self.now.state.pen 1 ≡ max 1 c.args.self.now.state.pen = omega arith in
    let e : c.max-pen.result ≡ max 1 c.args.self.now.state.pen = c.max-pen.ensures ∙ p in
    simp to_z-of_z (rw (c.colour_of.ensures, e) refl)

pub overflow_cast-result-2 : goal.overflow_cast-result-2
overflow_cast-result-2 c =
    let a = c.args.a in
    let far = c.args.self.now.sound.range_in.most in
    let ay = c.requires.a_in.y_in in
    let f : FitsSigned w128 a.y = omega (arith, ints) in
    let g : FitsSigned w32 a.y = omega (arith, ints) in
    simp to_z-of_z g

pub overflow_cast-result-4 : goal.overflow_cast-result-4
overflow_cast-result-4 c =
    let b = c.args.b in
    let far = c.args.self.now.sound.range_in.most in
    let by = c.requires.b_in.y_in in
    let f : FitsSigned w128 b.y = omega (arith, ints) in
    let g : FitsSigned w32 b.y = omega (arith, ints) in
    simp to_z-of_z g

pub overflow_cast-result : goal.overflow_cast-result
overflow_cast-result c =
    let a = c.args.a in
    let far = c.args.self.now.sound.range_in.most in
    let ax = c.requires.a_in.x_in in
    let f : FitsSigned w128 a.x = omega (arith, ints) in
    let g : FitsSigned w32 a.x = omega (arith, ints) in
    simp to_z-of_z g

pub overflow_cast-result-3 : goal.overflow_cast-result-3
overflow_cast-result-3 c =
    let b = c.args.b in
    let far = c.args.self.now.sound.range_in.most in
    let bx = c.requires.b_in.x_in in
    let f : FitsSigned w128 b.x = omega (arith, ints) in
    let g : FitsSigned w32 b.x = omega (arith, ints) in
    simp to_z-of_z g
