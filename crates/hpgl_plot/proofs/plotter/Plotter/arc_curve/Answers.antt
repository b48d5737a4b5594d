use Rattle.std.proofs.Common.{rules, FitsSigned}
use mir.Syntax.{w64}
use Rattle.std.proofs.lemmas.Int.{to_z-of_z}
use Rattle.hpgl_plot.proofs.Curves.{pen_small, target_small}
use Rattle.hpgl_plot.proofs.plotter.Plotter.arc_curve.Goals as goal

pub returns-clause-curve : goal.returns-clause-curve
returns-clause-curve c =
    let p = c.args.self.now in
    let fx : FitsSigned w64 c.args.arc.x = search rules in
    let fy : FitsSigned w64 c.args.arc.y = search rules in
    let e = simp to_z-of_z at c.target_of.ensures.value in
    rw e (record {
      centre = target_small p.page p.range p.axes p.state c.args.is_relative c.args.arc.x c.args.arc.y p.sound c.requires.x_in c.requires.y_in;
      from = pen_small p.page p.range p.axes p.state p.sound;
      chord_above = c.requires.chord_above;
    })
