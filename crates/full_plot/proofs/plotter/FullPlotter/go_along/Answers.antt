use Rattle.std.proofs.Common.{◌∙◌, ◌∷◌, [], List, Option, ap, refl, rules}
use Rattle.std.specs.Bool.{⊤}
use Rattle.exact.specs.declared.spot.Spot.{Spot}
use Rattle.plot_settings.specs.Meanings.{Go}
use Rattle.hpgl_plot.specs.Machine as core
use Rattle.full_plot.specs.Curves.{drawn_over}
use Rattle.full_plot.specs.Lines.{ended_in, line_step, state_after}
use Rattle.full_plot.specs.Machine.{seen}
use Rattle.full_plot.specs.Worlds.{FullWorld}
use Rattle.full_plot.proofs.Curved.{ended_at, move_path_is}
use Rattle.full_plot.proofs.FullRuns.{stopped}
use Rattle.full_plot.proofs.LinesAlong.{along_keeps, line_by, solid_runs}
use Rattle.full_plot.proofs.plotter.FullPlotter.go_along.Goals as goal

pub returns-then-is_solid : goal.returns-then-is_solid
returns-then-is_solid c =
    solid_runs (seen c.args.self.now) (Go c.args.is_relative c.args.x c.args.y) (core.seen c.go.new.self) c.go.result refl (search rules) c.go.ensures

pub returns-in_err-draw_over : goal.returns-in_err-draw_over
returns-in_err-draw_over c =
    let w = seen c.args.self.now in
    let v = seen c.draw_over.new.self in
    let s = w.core.state in
    let t = Go c.args.is_relative c.args.x c.args.y in
    let end = c.end_of-end.result in
    let e = move_path_is w c.args.is_relative c.args.x c.args.y end c.end_of-end.ensures in
    stopped ⊤ (drawn_over w (end.place ∷ [])) (line_step w t) v v c.in_err-draw_over.field-0.0 c.from_residual.result
    (λ h. line_by w t s.is_down (s.place ∷ (end.place ∷ [])) end e ∙ ap (λ (o : Option FullWorld). ended_in (state_after w t) o) h)
    c.in_err-draw_over.ensures c.from_residual.ensures.1

pub returns : goal.returns
returns c =
    let w = seen c.args.self.now in
    let u = seen c.draw_over.new.self in
    let s = w.core.state in
    let t = Go c.args.is_relative c.args.x c.args.y in
    let end = c.end_of-end.result in
    let places : List Spot = s.place ∷ (end.place ∷ []) in
    let e = move_path_is w c.args.is_relative c.args.x c.args.y end c.end_of-end.ensures in
    ended_at w u (core.seen c.arrive.new.self) t s.is_down places end (drawn_over w (end.place ∷ [])) (line_step w t)
    (line_by w t s.is_down places end e) c.in_ok-draw_over.ensures e refl
    (along_keeps w u s.is_down places c.in_ok-draw_over.ensures) c.arrive.ensures
