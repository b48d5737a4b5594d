use Rattle.std.proofs.Common.{rules, ◌∙◌, ap, FitsSigned}
use mir.Syntax.{w64}
use Rattle.std.proofs.lemmas.Int.{to_z-of_z}
use Rattle.exact.specs.declared.spot.Spot.{Spot}
use Rattle.plot_arc.specs.Arcs.{chord_point_of}
use Rattle.hpgl_plot.specs.declared.curve.Curve.{Curve}
use Rattle.hpgl_plot.specs.Frames.{place}
use Rattle.hpgl_plot.proofs.Curves.{turned_above, turned_right}
use Rattle.hpgl_plot.proofs.plotter.Plotter.place_about.Goals as goal

-- a turned point has a place
pub place_of-requires-clause-x_near : goal.place_of-requires-clause-x_near
place_of-requires-clause-x_near c =
    let p = c.args.self.now in
    let f : FitsSigned w64 c.args.angle = search rules in
    let e = simp to_z-of_z at c.chord_point.ensures in
    rw e (turned_right p.page p.state.frame p.axes c.circle_curve-curve.result c.args.angle p.sound.framed c.circle_curve-curve.ensures.curve)

pub place_of-requires-clause-y_near : goal.place_of-requires-clause-y_near
place_of-requires-clause-y_near c =
    let p = c.args.self.now in
    let f : FitsSigned w64 c.args.angle = search rules in
    let e = simp to_z-of_z at c.chord_point.ensures in
    rw e (turned_above p.page p.state.frame p.axes c.circle_curve-curve.result c.args.angle p.sound.framed c.circle_curve-curve.ensures.curve)

pub returns : goal.returns
returns c =
    let p = c.args.self.now in
    let f : FitsSigned w64 c.args.angle = search rules in
    let g : FitsSigned w64 c.args.radius = search rules in
    let e = simp to_z-of_z at c.chord_point.ensures in
    let v = simp to_z-of_z at c.circle_curve-curve.ensures.value in
    c.place_of.ensures
    ∙ ap (λ (u : Spot). place p.page p.state.frame u) (e ∙ ap (λ (k : Curve). chord_point_of k.centre k.from c.args.angle) v)
