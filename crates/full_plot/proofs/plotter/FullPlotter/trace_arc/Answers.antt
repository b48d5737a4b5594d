use Rattle.std.proofs.Common.{◌∙◌, ◌∷◌, List, Option, ap, refl, rules}
use Rattle.std.specs.Bool.{⊤}
use Rattle.exact.specs.declared.spot.Spot.{Spot}
use Rattle.plot_settings.specs.Meanings.{DrawArc}
use Rattle.hpgl_plot.specs.Machine as core
use Rattle.hpgl_plot.specs.Paths.{along}
use Rattle.full_plot.specs.Curves.{traced_over}
use Rattle.full_plot.specs.Lines.{ended_in, state_after}
use Rattle.full_plot.specs.Machine.{seen}
use Rattle.full_plot.specs.Polygons.{trace_step}
use Rattle.full_plot.specs.Worlds.{FullWorld}
use Rattle.full_plot.proofs.Curved.{arc_end_in_range, arc_end_is_placed, arc_traced, ended_at, traced_in, traced_keeps}
use Rattle.full_plot.proofs.FullRuns.{stopped}
use Rattle.full_plot.proofs.LinesAlong.{kept_range}
use Rattle.full_plot.proofs.plotter.FullPlotter.trace_arc.Goals as goal

pub returns-in_err-trace_over : goal.returns-in_err-trace_over
returns-in_err-trace_over c =
    let w = seen c.args.self.now in
    let v = seen c.trace_over.new.self in
    let t = DrawArc c.args.is_relative c.args.arc in
    let places : List Spot = c.as_slice.result.now in
    let end = c.in_ok-outline.outline.end in
    let path = c.in_ok-outline.ensures.path ∙ ap (λ (qs : List Spot). along (w.core.state.place ∷ qs) w.core.state.is_down end) (search rules) in
    stopped ⊤ (traced_over w places) (trace_step w t) v v c.in_err-trace_over.field-0.0 c.from_residual-in_err-trace_over.result
    (λ h. arc_traced w c.args.is_relative c.args.arc places end path
    ∙ ap (λ (o : Option FullWorld). ended_in (state_after w t) o) h)
    c.in_err-trace_over.ensures c.from_residual-in_err-trace_over.ensures.1

pub arrive-requires-clause-place_in : goal.arrive-requires-clause-place_in
arrive-requires-clause-place_in c =
    let w = seen c.args.self.now in
    let places : List Spot = c.as_slice.result.now in
    let end = c.in_ok-outline.outline.end in
    let path = c.in_ok-outline.ensures.path ∙ ap (λ (qs : List Spot). along (w.core.state.place ∷ qs) w.core.state.is_down end) (search rules) in
    let v = seen c.trace_over.new.self in
    kept_range w v end.place (traced_keeps w v places c.in_ok-trace_over.ensures)
    (arc_end_in_range w c.args.is_relative c.args.arc places end path (traced_in w v places c.in_ok-trace_over.ensures))

pub arrive-requires-clause-placed : goal.arrive-requires-clause-placed
arrive-requires-clause-placed c =
    let w = seen c.args.self.now in
    let u = seen c.trace_over.new.self in
    let places : List Spot = c.as_slice.result.now in
    let end = c.in_ok-outline.outline.end in
    let path = c.in_ok-outline.ensures.path ∙ ap (λ (qs : List Spot). along (w.core.state.place ∷ qs) w.core.state.is_down end) (search rules) in
    arc_end_is_placed w u c.args.is_relative c.args.arc places end path
    (traced_keeps w u places c.in_ok-trace_over.ensures)

pub returns : goal.returns
returns c =
    let w = seen c.args.self.now in
    let u = seen c.trace_over.new.self in
    let s = w.core.state in
    let t = DrawArc c.args.is_relative c.args.arc in
    let places : List Spot = c.as_slice.result.now in
    let end = c.in_ok-outline.outline.end in
    let path = c.in_ok-outline.ensures.path ∙ ap (λ (qs : List Spot). along (w.core.state.place ∷ qs) w.core.state.is_down end) (search rules) in
    ended_at w u (core.seen c.arrive.new.self) t s.is_down (s.place ∷ places) end (traced_over w places) (trace_step w t)
    (arc_traced w c.args.is_relative c.args.arc places end path) c.in_ok-trace_over.ensures path refl
    (traced_keeps w u places c.in_ok-trace_over.ensures) c.arrive.ensures
