use Rattle.std.proofs.Common.{◌∙◌, ◌∷◌, List, Option, ap, refl, rules}
use Rattle.std.specs.Bool.{⊤}
use Rattle.exact.specs.declared.spot.Spot.{Spot}
use Rattle.plot_settings.specs.Meanings.{DrawArc}
use Rattle.hpgl_plot.specs.Machine as core
use Rattle.hpgl_plot.specs.Paths.{along}
use Rattle.full_plot.specs.Curves.{drawn_over}
use Rattle.full_plot.specs.Lines.{ended_in, line_step, state_after}
use Rattle.full_plot.specs.Machine.{seen}
use Rattle.full_plot.specs.Worlds.{FullWorld}
use Rattle.full_plot.proofs.Curved.{arc_end_in_range, arc_end_is_placed, ended_at}
use Rattle.full_plot.proofs.FullRuns.{stopped}
use Rattle.full_plot.proofs.LinesAlong.{along_in, along_keeps, kept_range, line_by, solid_runs}
use Rattle.full_plot.proofs.plotter.FullPlotter.arc_along.Goals as goal

pub returns-then-is_solid : goal.returns-then-is_solid
returns-then-is_solid c =
    solid_runs (seen c.args.self.now) (DrawArc c.args.is_relative c.args.arc) (core.seen c.arc.new.self) c.arc.result refl (search rules) c.arc.ensures

pub returns-in_err-draw_over : goal.returns-in_err-draw_over
returns-in_err-draw_over c =
    let w = seen c.args.self.now in
    let v = seen c.draw_over.new.self in
    let s = w.core.state in
    let t = DrawArc c.args.is_relative c.args.arc in
    let places : List Spot = c.as_slice.result.now in
    let end = c.in_ok-outline.outline.end in
    let path = c.in_ok-outline.ensures.path ∙ ap (λ (qs : List Spot). along (s.place ∷ qs) s.is_down end) (search rules) in
    stopped ⊤ (drawn_over w places) (line_step w t) v v c.in_err-draw_over.field-0.0 c.from_residual-in_err-draw_over.result
    (λ h. line_by w t s.is_down (s.place ∷ places) end path ∙ ap (λ (o : Option FullWorld). ended_in (state_after w t) o) h)
    c.in_err-draw_over.ensures c.from_residual-in_err-draw_over.ensures.1

pub arrive-requires-clause-place_in : goal.arrive-requires-clause-place_in
arrive-requires-clause-place_in c =
    let w = seen c.args.self.now in
    let s = w.core.state in
    let places : List Spot = c.as_slice.result.now in
    let end = c.in_ok-outline.outline.end in
    let path = c.in_ok-outline.ensures.path ∙ ap (λ (qs : List Spot). along (s.place ∷ qs) s.is_down end) (search rules) in
    let v = seen c.draw_over.new.self in
    kept_range w v end.place (along_keeps w v s.is_down (s.place ∷ places) c.in_ok-draw_over.ensures)
    (arc_end_in_range w c.args.is_relative c.args.arc places end path
    (along_in w v s.is_down (s.place ∷ places) c.in_ok-draw_over.ensures))

pub arrive-requires-clause-placed : goal.arrive-requires-clause-placed
arrive-requires-clause-placed c =
    let w = seen c.args.self.now in
    let u = seen c.draw_over.new.self in
    let s = w.core.state in
    let places : List Spot = c.as_slice.result.now in
    let end = c.in_ok-outline.outline.end in
    let path = c.in_ok-outline.ensures.path ∙ ap (λ (qs : List Spot). along (s.place ∷ qs) s.is_down end) (search rules) in
    arc_end_is_placed w u c.args.is_relative c.args.arc places end path
    (along_keeps w u s.is_down (s.place ∷ places) c.in_ok-draw_over.ensures)

pub returns : goal.returns
returns c =
    let w = seen c.args.self.now in
    let u = seen c.draw_over.new.self in
    let s = w.core.state in
    let t = DrawArc c.args.is_relative c.args.arc in
    let places : List Spot = c.as_slice.result.now in
    let end = c.in_ok-outline.outline.end in
    let path = c.in_ok-outline.ensures.path ∙ ap (λ (qs : List Spot). along (s.place ∷ qs) s.is_down end) (search rules) in
    ended_at w u (core.seen c.arrive.new.self) t s.is_down (s.place ∷ places) end (drawn_over w places) (line_step w t)
    (line_by w t s.is_down (s.place ∷ places) end path) c.in_ok-draw_over.ensures path refl
    (along_keeps w u s.is_down (s.place ∷ places) c.in_ok-draw_over.ensures) c.arrive.ensures
