use Rattle.std.proofs.Common.{◌∙◌, ◌∷◌, [], Option, ap, refl}
use Rattle.std.specs.Bool.{⊤}
use Rattle.plot_settings.specs.Meanings.{Go}
use Rattle.hpgl_plot.specs.Machine as core
use Rattle.hpgl_plot.specs.Paths.{target}
use Rattle.full_plot.specs.Lines.{ended_in, state_after}
use Rattle.full_plot.specs.Machine.{seen}
use Rattle.full_plot.specs.Polygons.{reached, trace_step}
use Rattle.full_plot.specs.Worlds.{FullWorld}
use Rattle.full_plot.proofs.Curved.{end_is_placed, ended_at, move_path_is, move_traced, reached_in, reached_keeps}
use Rattle.full_plot.proofs.FullRuns.{stopped}
use Rattle.full_plot.proofs.LinesAlong.{kept_range, second_in_range}
use Rattle.full_plot.proofs.plotter.FullPlotter.trace_move.Goals as goal

pub returns-in_err-reach : goal.returns-in_err-reach
returns-in_err-reach c =
    let w = seen c.args.self.now in
    let v = seen c.reach.new.self in
    let t = Go c.args.is_relative c.args.x c.args.y in
    let end = c.end_of-end.result in
    let e = move_path_is w c.args.is_relative c.args.x c.args.y end c.end_of-end.ensures in
    stopped ⊤ (reached w (end.place ∷ [])) (trace_step w t) v v c.in_err-reach.field-0.0 c.from_residual.result
    (λ h. move_traced w c.args.is_relative c.args.x c.args.y end e ∙ ap (λ (o : Option FullWorld). ended_in (state_after w t) o) h)
    c.in_err-reach.ensures c.from_residual.ensures.1

pub arrive-requires-clause-place_in : goal.arrive-requires-clause-place_in
arrive-requires-clause-place_in c =
    let w = seen c.args.self.now in
    let end = c.end_of-end.result in
    let v = seen c.reach.new.self in
    kept_range w v end.place (reached_keeps w v (end.place ∷ []) c.in_ok-reach.ensures)
    (second_in_range w.core.range w.core.state.place end.place [] (reached_in w v (end.place ∷ []) c.in_ok-reach.ensures))

pub arrive-requires-clause-placed : goal.arrive-requires-clause-placed
arrive-requires-clause-placed c =
    let w = seen c.args.self.now in
    let u = seen c.reach.new.self in
    let end = c.end_of-end.result in
    end_is_placed w u end (target c.args.is_relative w.core.state.coordinates c.args.x c.args.y) c.end_of-end.ensures
    (reached_keeps w u (end.place ∷ []) c.in_ok-reach.ensures)

pub returns : goal.returns
returns c =
    let w = seen c.args.self.now in
    let u = seen c.reach.new.self in
    let s = w.core.state in
    let t = Go c.args.is_relative c.args.x c.args.y in
    let end = c.end_of-end.result in
    let e = move_path_is w c.args.is_relative c.args.x c.args.y end c.end_of-end.ensures in
    ended_at w u (core.seen c.arrive.new.self) t s.is_down (s.place ∷ (end.place ∷ [])) end (reached w (end.place ∷ [])) (trace_step w t)
    (move_traced w c.args.is_relative c.args.x c.args.y end e) c.in_ok-reach.ensures e refl
    (reached_keeps w u (end.place ∷ []) c.in_ok-reach.ensures) c.arrive.ensures
