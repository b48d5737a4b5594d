use Rattle.std.proofs.Common.{◌∷◌, ap, refl}
use Rattle.hpgl_plot.specs.declared.state.Position.{Position}
use Rattle.hpgl_plot.specs.Paths.{chord_count, curve_point, curve_places, Path, pen_at}
use Rattle.plot_settings.specs.Meanings.{DrawArc}
use Rattle.hpgl_plot.specs.Machine.{seen, step, moved, travelled}
use Rattle.hpgl_plot.proofs.Curves.{arc_path_is, placed, stopped_by}
use Rattle.hpgl_plot.proofs.Travels.{Line, moved_runs, step_out, travelled_keeps}
use Rattle.hpgl_plot.proofs.plotter.Plotter.arc.Goals as goal

pub returns-in_err-end : goal.returns-in_err-end
returns-in_err-end c =
    let w = seen c.args.self.now in
    let v = seen c.follow_curve.new.self in
    let s = w.state in
    let curve = c.arc_curve-curve.result in
    let end = pen_at w.page s.frame (curve_point curve (chord_count curve)) in
    let p : Line = record { places = s.place ∷ curve_places w.page s.frame curve; draws = s.is_down; ends = end } in
    let e = arc_path_is w.page s c.args.is_relative c.args.arc curve end c.arc_curve-curve.ensures.value refl in
    stopped_by Position (travelled w p.draws p.places)
    (step w (DrawArc c.args.is_relative c.args.arc)) v v c.in_err-end.field-0.0 c.from_residual.result
    (step_out w (DrawArc c.args.is_relative c.args.arc) p e) c.in_err-end.ensures.runs c.from_residual.ensures.1

pub arrive-requires-clause-placed : goal.arrive-requires-clause-placed
arrive-requires-clause-placed c =
    let w = seen c.args.self.now in
    let s = w.state in
    let curve = c.arc_curve-curve.result in
    let places = s.place ∷ curve_places w.page s.frame curve in
    let k = travelled_keeps w (seen c.follow_curve.new.self) s.is_down places c.in_ok-end.ensures.runs in
    rw (k.page_is, k.state_is) (placed w.page s.frame (curve_point curve (chord_count curve)) c.in_ok-end.end c.in_ok-end.ensures.end)

pub returns : goal.returns
returns c =
    let w = seen c.args.self.now in
    let s = w.state in
    let curve = c.arc_curve-curve.result in
    let end = c.in_ok-end.end in
    let p : Line = record { places = s.place ∷ curve_places w.page s.frame curve; draws = s.is_down; ends = end } in
    let e = arc_path_is w.page s c.args.is_relative c.args.arc curve end c.arc_curve-curve.ensures.value c.in_ok-end.ensures.end in
    moved_runs w (seen c.follow_curve.new.self) (seen c.arrive.new.self) (DrawArc c.args.is_relative c.args.arc) p
    (ap (λ (r : Path). moved s r.ends) e) e c.in_ok-end.ensures.runs c.arrive.ensures
