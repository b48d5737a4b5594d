use Rattle.std.proofs.Common.{rules, FitsSigned}
use mir.Syntax.{w64, w128}
use Rattle.std.proofs.lemmas.Int.{to_z-of_z}
use Rattle.hpgl_plot.proofs.Curves.{pen_small, right_small}
use Rattle.hpgl_plot.proofs.plotter.Plotter.circle_curve.Goals as goal

pub returns-clause-curve : goal.returns-clause-curve
returns-clause-curve c =
    let p = c.args.self.now in
    let fx : FitsSigned w128 c.moved-right.result = search rules in
    let fc : FitsSigned w128 p.state.coordinates.x = search rules in
    let fy : FitsSigned w128 p.state.coordinates.y = search rules in
    let fr : FitsSigned w64 c.args.circle.radius = search rules in
    let e = simp to_z-of_z at c.moved-right.ensures.value in
    simp to_z-of_z (rw e (record {
      centre = pen_small p.page p.range p.axes p.state p.sound;
      from = right_small p.page p.range p.axes p.state c.args.circle.radius p.sound c.requires.radius_in;
      chord_above = c.requires.chord_above;
    }))
