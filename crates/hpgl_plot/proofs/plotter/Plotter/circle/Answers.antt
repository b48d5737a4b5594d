use Rattle.std.proofs.Common.{◌∷◌, refl, true, Ok}
use Rattle.std.specs.Bool.{⊤}
use Rattle.hpgl_plot.specs.declared.state.Position.{Position}
use Rattle.hpgl_plot.specs.Paths.{curve_places, position}
use Rattle.plot_settings.specs.Meanings.{DrawCircle}
use Rattle.hpgl_plot.specs.Machine.{seen, step, travelled}
use Rattle.hpgl_plot.proofs.Curves.{circle_path_is, stopped_by, first_right, first_above}
use Rattle.hpgl_plot.proofs.Travels.{Line, still_runs, step_out}
use Rattle.hpgl_plot.proofs.plotter.Plotter.circle.Goals as goal

pub returns-in_err-follow_curve : goal.returns-in_err-follow_curve
returns-in_err-follow_curve c =
    let w = seen c.args.self.now in
    let v = seen c.follow_curve.new.self in
    let s = w.state in
    let curve = c.circle_curve-curve.result in
    let q = c.place_of-start.result in
    let p : Line = record { places = q ∷ curve_places w.page s.frame curve; draws = true; ends = position s } in
    let e = circle_path_is w.page s c.args.circle curve q c.circle_curve-curve.ensures.value c.place_of-start.ensures in
    stopped_by Position (travelled w p.draws p.places)
    (step w (DrawCircle c.args.circle)) v v c.in_err-follow_curve.field-0.0 c.from_residual.result
    (step_out w (DrawCircle c.args.circle) p e) c.in_err-follow_curve.ensures.runs c.from_residual.ensures.1

pub returns : goal.returns
returns c =
    let w = seen c.args.self.now in
    let v = seen c.follow_curve.new.self in
    let s = w.state in
    let curve = c.circle_curve-curve.result in
    let q = c.place_of-start.result in
    still_runs {U = ⊤} w v (DrawCircle c.args.circle)
    (record { places = q ∷ curve_places w.page s.frame curve; draws = true; ends = position s }) (Ok tt) refl
    (circle_path_is w.page s c.args.circle curve q c.circle_curve-curve.ensures.value c.place_of-start.ensures) c.in_ok-follow_curve.ensures.runs

pub place_of-start-requires-clause-x_near : goal.place_of-start-requires-clause-x_near
place_of-start-requires-clause-x_near c =
    let p = c.args.self.now in
    first_right p.page p.state.frame p.axes c.circle_curve-curve.result p.sound.framed c.circle_curve-curve.ensures.curve

pub place_of-start-requires-clause-y_near : goal.place_of-start-requires-clause-y_near
place_of-start-requires-clause-y_near c =
    let p = c.args.self.now in
    first_above p.page p.state.frame p.axes c.circle_curve-curve.result p.sound.framed c.circle_curve-curve.ensures.curve
