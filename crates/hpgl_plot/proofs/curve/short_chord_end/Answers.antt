use Rattle.std.proofs.Common.{rules, refl, ◌≡◌, FitsSigned}
use mir.Syntax.{w32, w64, w128}
use Rattle.std.proofs.lemmas.Int.{to_z-of_z}
use Rattle.plot_frame.specs.declared.pair.AxisName.TheVariants.{X, Y}
use Rattle.hpgl_plot.specs.Frames.{place}
use Rattle.hpgl_plot.specs.Paths.{curve_point}
use Rattle.hpgl_plot.proofs.OnAxes.{placed}
use Rattle.hpgl_plot.proofs.curve.short_chord_end.Goals as goal

pub returns : goal.returns
unfolding curve_point
returns c =
    let page = c.args.page.now in
    let f = c.args.frame.now in
    let axes = c.args.axes.now in
    let u = c.short_chord_point-coordinates.result in
    let fx : FitsSigned w128 c.unscaled_place-right.result = search rules in
    let fy : FitsSigned w128 c.unscaled_place-above.result = search rules in
    let gx : FitsSigned w128 u.x = search rules in
    let gy : FitsSigned w128 u.y = search rules in
    let ft : FitsSigned w64 c.turn-angle.result = search rules in
    let fs : FitsSigned w32 c.args.curve.sweep = search rules in
    let ex = simp to_z-of_z at c.unscaled_place-right.ensures.value in
    let ey = simp to_z-of_z at c.unscaled_place-above.ensures.value in
    let e = simp to_z-of_z at c.turned_place-place.ensures in
    let p : c.turned_place-place.result ≡ place page f u = rw (e, ex, ey, placed X page f axes u.x c.requires.axes, placed Y page f axes u.y c.requires.axes) refl in
    let a = simp to_z-of_z at c.short_chord_point-coordinates.ensures.value in
    let t = simp to_z-of_z at c.turn-angle.ensures in
    rw (p, a, t) refl
