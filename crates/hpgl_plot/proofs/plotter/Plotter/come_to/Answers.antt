use Rattle.std.proofs.Common.{◌∙◌, ◌∷◌, [], ap, sym, Option, Some}
use Rattle.hpgl_plot.specs.declared.state.Position.{Position}
use Rattle.hpgl_plot.specs.declared.state.State.{State}
use Rattle.hpgl_plot.specs.Machine.{World, seen, moved, travelled, ends_in}
use Rattle.hpgl_plot.proofs.Travels.{stopped, travelled_keeps}
use Rattle.hpgl_plot.proofs.plotter.Plotter.come_to.Goals as goal

pub returns-in_err-reach : goal.returns-in_err-reach
returns-in_err-reach c =
    let w = seen c.args.self.now in
    let v = seen c.reach.new.self in
    let s = w.state in
    let end = c.args.end in
    let ran = travelled w s.is_down (s.place ∷ (end.place ∷ [])) in
    stopped ran (ends_in (moved s end) ran) v v c.in_err-reach.field-0.0 c.from_residual.result
    (λ h. ap (λ (o : Option World). ends_in (moved s end) o) h) c.in_err-reach.ensures.runs c.from_residual.ensures.1

pub arrive-requires-clause-placed : goal.arrive-requires-clause-placed
arrive-requires-clause-placed c =
    let s = c.args.self.now.state in
    let k = travelled_keeps (seen c.args.self.now) (seen c.reach.new.self) s.is_down (s.place ∷ (c.args.end.place ∷ [])) c.in_ok-reach.ensures.runs in
    rw (k.page_is, k.state_is) (ap (λ (p : Position). p.place) c.requires)

pub returns : goal.returns
returns c =
    let w = seen c.args.self.now in
    let u = seen c.reach.new.self in
    let s = w.state in
    let end = c.args.end in
    let t = c.in_ok-reach.ensures.runs in
    let k = travelled_keeps w u s.is_down (s.place ∷ (end.place ∷ [])) t in
    ap (λ (o : Option World). ends_in (moved s end) o) t
    ∙ ap (λ (r : State). ends_in (moved r end) (Some u)) (sym k.state_is)
    ∙ c.arrive.ensures
