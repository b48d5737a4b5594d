use Rattle.std.proofs.Common.{◌≡◌, ◌∙◌, ◌∷◌, List, Some, true, false, ap, ap₂, sym, rules}
use Rattle.std.specs.Bool.{⊤}
use Rattle.exact.specs.declared.spot.Spot.{Spot}
use Rattle.plot_settings.specs.Meanings.{DrawCircle}
use Rattle.hpgl_plot.specs.Machine as core
use Rattle.hpgl_plot.specs.Paths.{along}
use Rattle.full_plot.specs.Machine.{seen}
use Rattle.full_plot.specs.Polygons.{figure_in, trace_step}
use Rattle.polygons.specs.Buffers.{Contents}
use Rattle.full_plot.proofs.FullRuns.{runs_by}
use Rattle.full_plot.proofs.Curved.{circle_out, circle_traced}
use Rattle.full_plot.proofs.LinesAlong.{core_stopped, not_drawn, rest_far, travelled_in}
use Rattle.full_plot.proofs.plotter.FullPlotter.trace_circle.Goals as goal

pub returns-in_err-travel : goal.returns-in_err-travel
returns-in_err-travel c =
    let w = seen c.args.self.now in
    let t = DrawCircle c.args.circle in
    let start = c.in_ok-outline.outline.start in
    let end = c.in_ok-outline.outline.end in
    let places : List Spot = c.as_slice-places.result.now in
    let same : c.in_ok-outline.outline.places.items ≡ places = search rules in
    let path = c.in_ok-outline.ensures.path ∙ ap (λ (qs : List Spot). along (start ∷ qs) true end) same in
    core_stopped ⊤ (core.travelled w.core false (start ∷ places)) (trace_step w t) (core.seen c.travel.new.self) _
    c.in_err-travel.field-0.0 c.from_residual-in_err-travel.result
    (circle_out w c.args.circle (start ∷ places) end path) c.in_err-travel.ensures c.from_residual-in_err-travel.ensures.1

pub put_figure-requires-clause-places_in : goal.put_figure-requires-clause-places_in
put_figure-requires-clause-places_in c =
    let w = seen c.args.self.now in
    let start = c.in_ok-outline.outline.start in
    let places : List Spot = c.as_slice-places.result.now in
    rest_far w.core.range start places c.args.self.now.plotter.sound.range_in (travelled_in w.core (core.seen c.travel.new.self) false (start ∷ places) c.in_ok-travel.ensures)

pub returns : goal.returns
returns c =
    let w = seen c.args.self.now in
    let t = DrawCircle c.args.circle in
    let start = c.in_ok-outline.outline.start in
    let end = c.in_ok-outline.outline.end in
    let places : List Spot = c.as_slice-places.result.now in
    let same : c.in_ok-outline.outline.places.items ≡ places = search rules in
    let path = c.in_ok-outline.ensures.path ∙ ap (λ (qs : List Spot). along (start ∷ qs) true end) same in
    let in_range = travelled_in w.core (core.seen c.travel.new.self) false (start ∷ places) c.in_ok-travel.ensures in
    let core_is : core.seen c.travel.new.self ≡ w.core = not_drawn w.core (core.seen c.travel.new.self) (start ∷ places) c.in_ok-travel.ensures in
    runs_by (trace_step w t) _ c.put_figure.result (c.put_figure.new.buffer ≡ figure_in c.close.new.buffer (start ∷ places))
    (λ h. circle_traced w c.args.circle (start ∷ places) end path in_range
    ∙ ap₂ (λ (x : core.World) (b : Contents). Some (record w { core = x; buffer = b })) (sym core_is)
    (ap (λ (b : Contents). figure_in b (start ∷ places)) (sym c.in_ok-close.ensures.closed) ∙ sym h))
    c.put_figure.ensures.figure c.put_figure.ensures.memory
