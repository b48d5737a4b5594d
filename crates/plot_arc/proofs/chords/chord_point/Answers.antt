use Rattle.std.proofs.Common.{refl, ◌+ℤ◌, FitsSigned, arith}
use mir.Syntax.{w128}
use Rattle.std.proofs.lemmas.Int.{ints, to_z-of_z}
use Rattle.plot_arc.proofs.Nearest.{x_is, y_is}
use Rattle.plot_arc.proofs.chords.chord_point.Goals as goal

pub returns : goal.returns
returns c =
    let centre = c.args.centre in
    let from = c.args.from in
    let v = c.vector.result in
    let by = c.sine_and_cosine.result in
    let way = c.turned-way.result in
    let h = c.requires.centre_in in
    let hx = h.x_in in
    let hy = h.y_in in
    let vx = c.vector.ensures.x_in in
    let vy = c.vector.ensures.y_in in
    let sm = c.sine_and_cosine.ensures.sine_in in
    let km = c.sine_and_cosine.ensures.cosine_in in
    let xm = c.turned-way.ensures.x_most in
    let ym = c.turned-way.ensures.y_most in
    let ft = c.ranges.thousandths in
    let fcx : FitsSigned w128 centre.x = omega (arith, ints) in
    let fcy : FitsSigned w128 centre.y = omega (arith, ints) in
    let fwx : FitsSigned w128 way.x = omega (arith, ints) in
    let fwy : FitsSigned w128 way.y = omega (arith, ints) in
    let fx : FitsSigned w128 (centre.x +ℤ way.x) = omega (arith, ints) in
    let fy : FitsSigned w128 (centre.y +ℤ way.y) = omega (arith, ints) in
    let s = simp to_z-of_z at c.sine_and_cosine.ensures.sine in
    let k = simp to_z-of_z at c.sine_and_cosine.ensures.cosine in
    let x = x_is centre from v c.args.thousandths by.sine by.cosine way.x c.vector.ensures.value s k c.turned-way.ensures.x in
    let y = y_is centre from v c.args.thousandths by.sine by.cosine way.y c.vector.ensures.value s k c.turned-way.ensures.y in
    simp to_z-of_z (rw (x, y) refl)
