use Rattle.std.proofs.Common.{refl, ◌+ℤ◌, ◌-ℤ◌, FitsSigned}
use mir.Syntax.{w64, w128}
use Rattle.std.proofs.lemmas.Int.{to_z-of_z}
use Rattle.plot_arc.specs.Arcs.{vector}
use Rattle.plot_arc.proofs.Nearest.{x_is, y_is}
use Rattle.plot_arc.proofs.Short.{in_64, in_128, way_in_64, way_in_128, difference_in_64, sum_in, sum_in_64, sum_in_128}
use Rattle.plot_arc.proofs.chords.short_chord_point.Goals as goal

pub returns-clause-value : goal.returns-clause-value
returns-clause-value c =
    let centre = c.args.centre in
    let from = c.args.from in
    let way = c.short_turned-way.result in
    let hx = c.requires.centre_in.x_in in
    let hy = c.requires.centre_in.y_in in
    let wx = c.short_turned-way.ensures.x_most in
    let wy = c.short_turned-way.ensures.y_most in
    let cx128 : FitsSigned w128 centre.x = in_128 centre.x hx in
    let cy128 : FitsSigned w128 centre.y = in_128 centre.y hy in
    let cx64 : FitsSigned w64 centre.x = in_64 centre.x hx in
    let cy64 : FitsSigned w64 centre.y = in_64 centre.y hy in
    let wx128 : FitsSigned w128 way.x = way_in_128 way.x wx in
    let wy128 : FitsSigned w128 way.y = way_in_128 way.y wy in
    let wx64 : FitsSigned w64 way.x = way_in_64 way.x wx in
    let wy64 : FitsSigned w64 way.y = way_in_64 way.y wy in
    let sx64 : FitsSigned w64 (centre.x +ℤ way.x) = sum_in_64 centre.x way.x hx wx in
    let sy64 : FitsSigned w64 (centre.y +ℤ way.y) = sum_in_64 centre.y way.y hy wy in
    let sx128 : FitsSigned w128 (centre.x +ℤ way.x) = sum_in_128 centre.x way.x hx wx in
    let sy128 : FitsSigned w128 (centre.y +ℤ way.y) = sum_in_128 centre.y way.y hy wy in
    let ex = simp to_z-of_z at c.from.ensures in
    let ey = simp to_z-of_z at c.from-2.ensures in
    let gx = c.requires.from_in.x_in in
    let gy = c.requires.from_in.y_in in
    let px128 : FitsSigned w128 from.x = in_128 from.x gx in
    let py128 : FitsSigned w128 from.y = in_128 from.y gy in
    let px64 : FitsSigned w64 from.x = in_64 from.x gx in
    let py64 : FitsSigned w64 from.y = in_64 from.y gy in
    let dx : FitsSigned w64 (from.x -ℤ centre.x) = difference_in_64 from.x centre.x gx hx in
    let dy : FitsSigned w64 (from.y -ℤ centre.y) = difference_in_64 from.y centre.y gy hy in
    let by = c.sine_and_cosine.result in
    let ft = c.ranges.thousandths in
    let s = simp to_z-of_z at c.sine_and_cosine.ensures.sine in
    let k = simp to_z-of_z at c.sine_and_cosine.ensures.cosine in
    let tx = simp to_z-of_z at c.short_turned-way.ensures.x in
    let ty = simp to_z-of_z at c.short_turned-way.ensures.y in
    let x = x_is centre from (vector centre from) c.args.thousandths by.sine by.cosine way.x refl s k tx in
    let y = y_is centre from (vector centre from) c.args.thousandths by.sine by.cosine way.y refl s k ty in
    rw (ex, ey) (simp to_z-of_z (rw (x, y) refl))

pub returns-clause-x_in : goal.returns-clause-x_in
returns-clause-x_in c =
    let centre = c.args.centre in
    let from = c.args.from in
    let way = c.short_turned-way.result in
    let hx = c.requires.centre_in.x_in in
    let hy = c.requires.centre_in.y_in in
    let wx = c.short_turned-way.ensures.x_most in
    let wy = c.short_turned-way.ensures.y_most in
    let cx128 : FitsSigned w128 centre.x = in_128 centre.x hx in
    let cy128 : FitsSigned w128 centre.y = in_128 centre.y hy in
    let cx64 : FitsSigned w64 centre.x = in_64 centre.x hx in
    let cy64 : FitsSigned w64 centre.y = in_64 centre.y hy in
    let wx128 : FitsSigned w128 way.x = way_in_128 way.x wx in
    let wy128 : FitsSigned w128 way.y = way_in_128 way.y wy in
    let wx64 : FitsSigned w64 way.x = way_in_64 way.x wx in
    let wy64 : FitsSigned w64 way.y = way_in_64 way.y wy in
    let sx64 : FitsSigned w64 (centre.x +ℤ way.x) = sum_in_64 centre.x way.x hx wx in
    let sy64 : FitsSigned w64 (centre.y +ℤ way.y) = sum_in_64 centre.y way.y hy wy in
    let sx128 : FitsSigned w128 (centre.x +ℤ way.x) = sum_in_128 centre.x way.x hx wx in
    let sy128 : FitsSigned w128 (centre.y +ℤ way.y) = sum_in_128 centre.y way.y hy wy in
    let ex = simp to_z-of_z at c.from.ensures in
    let ey = simp to_z-of_z at c.from-2.ensures in
    rw ex (simp to_z-of_z (sum_in centre.x way.x hx wx))
