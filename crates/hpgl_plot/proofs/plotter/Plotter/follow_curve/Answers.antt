use Rattle.std.proofs.Common.{◌∙◌, ◌<◌, ◌∷◌, [], ap}
use Rattle.std.specs.Bool.{⊤}
use Rattle.hpgl_plot.specs.declared.state.Position.{Position}
use Rattle.hpgl_plot.specs.Paths.{chord_count, curve_places}
use Rattle.hpgl_plot.specs.Machine.{seen, travelled}
use Rattle.hpgl_plot.proofs.Curves.{one_chord, no_chord, stopped_by}
use Rattle.hpgl_plot.proofs.Fed.{travelled_out}
use Rattle.hpgl_plot.proofs.Travels.{travelled_keeps}
use Rattle.hpgl_plot.proofs.plotter.Plotter.follow_curve.Goals as goal

pub returns-in_err-begin-clause-runs : goal.returns-in_err-begin-clause-runs
returns-in_err-begin-clause-runs c =
    let w = seen c.args.self.now in
    let draws = c.args.draws in
    let places = curve_places w.page w.state.frame c.args.curve in
    stopped_by ⊤ (travelled w draws (c.args.start ∷ []))
    (travelled w draws (c.args.start ∷ places)) w w c.in_err-begin.field-0.0 c.from_residual.result
    (travelled_out w draws c.args.start places) (c.in_err-begin.ensures.runs draws) c.from_residual.ensures.1

pub returns-in_err-reach-clause-runs : goal.returns-in_err-reach-clause-runs
returns-in_err-reach-clause-runs c =
    let w = seen c.args.self.now in
    let v = seen c.loop-k.self in
    let u = seen c.reach.new.self in
    let draws = c.args.draws in
    let f = w.state.frame in
    let k = c.loop-k.k in
    let i = c.loop-k.invariant in
    let from = c.loop-k.end.place in
    let q = c.chord_end-next.result.place in
    let places = curve_places w.page f c.args.curve in
    let h : k < chord_count c.args.curve = rw (c.chord_count-k-end.ensures) at c.loop-k-test.true in
    let e = ap (λ (p : Position). p.place) c.chord_end-next.ensures in
    stopped_by ⊤ (travelled v draws (from ∷ (q ∷ [])))
    (travelled w draws (c.args.start ∷ places)) u u c.in_err-reach.field-0.0 c.from_residual-in_err-reach.result
    (no_chord w.page f c.args.curve draws v w from q c.args.start k h e i.same) c.in_err-reach.ensures.runs c.from_residual-in_err-reach.ensures.1

pub loop-k-preserved : goal.loop-k-preserved
loop-k-preserved c =
    let w = seen c.args.self.now in
    let v = seen c.loop-k.self in
    let u = seen c.reach.new.self in
    let f = w.state.frame in
    let k = c.loop-k.k in
    let i = c.loop-k.invariant in
    let q = c.chord_end-next.result.place in
    let h : k < chord_count c.args.curve = rw (c.chord_count-k-end.ensures) at c.loop-k-test.true in
    let e = ap (λ (p : Position). p.place) c.chord_end-next.ensures in
    let t = travelled_keeps v u c.args.draws (c.loop-k.end.place ∷ (q ∷ [])) c.in_ok-reach.ensures.runs in
    record {
      kept = record { page_is = t.page_is ∙ i.kept.page_is; range_is = t.range_is ∙ i.kept.range_is; state_is = t.state_is ∙ i.kept.state_is };
      place_in = c.in_ok-reach.ensures.in_range;
      end_is = λ z. c.chord_end-next.ensures;
      same = one_chord w.page f c.args.curve c.args.draws v u w c.loop-k.end.place q c.args.start k h e i.same c.in_ok-reach.ensures.runs;
    }
