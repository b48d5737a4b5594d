use Rattle.std.proofs.Common.{rules, refl, FitsSigned}
use mir.Syntax.{w64, w128}
use Rattle.std.proofs.lemmas.Int.{to_z-of_z}
use Rattle.hpgl_plot.specs.Paths.{target}
use Rattle.hpgl_plot.proofs.OnAxes.{plain_position}
use Rattle.hpgl_plot.proofs.plotter.Plotter.plain_end.Goals as goal

pub returns : goal.returns
returns c =
    let p = c.args.self.now in
    let s = p.state in
    let t = target c.args.is_relative s.coordinates c.args.x c.args.y in
    let fx : FitsSigned w128 c.unscaled_place.result = search rules in
    let fy : FitsSigned w128 c.unscaled_place-2.result = search rules in
    let fr : FitsSigned w128 c.from-right.result = search rules in
    let fa : FitsSigned w128 c.from-above.result = search rules in
    let gr : FitsSigned w64 c.short_target.result = search rules in
    let ga : FitsSigned w64 c.short_target-2.result = search rules in
    let gx : FitsSigned w64 c.millionths.result = search rules in
    let gy : FitsSigned w64 c.millionths-2.result = search rules in
    let cx : FitsSigned w128 s.coordinates.x = search rules in
    let cy : FitsSigned w128 s.coordinates.y = search rules in
    let ex = simp to_z-of_z at c.unscaled_place.ensures.value in
    let ey = simp to_z-of_z at c.unscaled_place-2.ensures.value in
    let er = simp to_z-of_z at c.from-right.ensures in
    let ea = simp to_z-of_z at c.from-above.ensures in
    let tr = simp to_z-of_z at c.short_target.ensures.value in
    let ta = simp to_z-of_z at c.short_target-2.ensures.value in
    let mx = c.millionths.ensures.value in
    let my = c.millionths-2.ensures.value in
    simp to_z-of_z (plain_position p.page s.frame p.axes t c.unscaled_place.result c.unscaled_place-2.result c.from-right.result c.from-above.result
    p.sound.framed c.requires.rotation_is (rw (er, tr, mx) refl) (rw (ea, ta, my) refl) ex ey)
