use Rattle.std.proofs.Common.{◌≡◌, ℕ, ◌+◌, ◌<◌, ◌≢◌, Bool, cond, get_or, length, arith, sym, ap, ◌∙◌, below_more, get_or-set_other, get_or-set_same}
use Rattle.plot_page.specs.Segments.{Segment}
use Rattle.plot_page.specs.declared.page.Page.{Page}
use Rattle.plot_page.specs.declared.dots.Dots.{Dots}
use Rattle.stroke_raster.proofs.Reached.{least_more, most_more, grows_more}
use Rattle.stroke_raster.proofs.gauge.Gauge.paint.Goals.{then-is_met, else-is_met}
use Rattle.stroke_raster.proofs.gauge.Gauge.paint.Goals as goal

pub loop-i-preserved : goal.loop-i-preserved
loop-i-preserved g c =
    let count = g.Self.Gauge.count in
    let reached_at = λ (k : ℕ). g.Self.Gauge.reaches c.args.self.now c.args.trace.now.stroke.now c.args.page.now c.args.trace.now.dots c.args.row k in
    let inv = c.loop-i.invariant in
    let met : c.meets-is_met.result ≡ g.Self.Gauge.reaches c.args.self.now c.args.trace.now.stroke.now c.args.page.now c.args.trace.now.dots c.args.row (c.args.from + c.loop-i.i) =
    c.meets-is_met.ensures.answer ∙ ap (λ (f : Segment → Page → Dots → ℕ → ℕ → Bool). f c.args.trace.now.stroke.now c.args.page.now c.args.trace.now.dots c.args.row (c.args.from + c.loop-i.i)) c.loop-i.invariant.same in
    let cell : c.if-is_met.cell ≡ cond (g.Self.Gauge.reaches c.args.self.now c.args.trace.now.stroke.now c.args.page.now c.args.trace.now.dots c.args.row (c.args.from + c.loop-i.i)) c.args.position (get_or c.args.cells.now c.loop-i.i 0) =
    elim c.if-is_met.branch [
      | then-is_met w ↦ w.cell-is ∙ sym (ap (λ (b : Bool). cond b c.args.position (get_or c.args.cells.now c.loop-i.i 0)) (sym met ∙ w.if-is_met.true))
      | else-is_met w ↦ w.cell-is ∙ c.loop-i.invariant.rest c.loop-i.i (omega arith) ∙ sym (ap (λ (b : Bool). cond b c.args.position (get_or c.args.cells.now c.loop-i.i 0)) (sym met ∙ w.if-is_met.false))
    ] in
    record {
      done = below_more _ _
          (λ k h. let ne : k ≢ c.loop-i.i = omega arith in rw get_or-set_other (c.loop-i.invariant.done k h))
          (let lt : c.loop-i.i < length c.loop-i.cells = omega (arith, c.loop-i.auto.cells, c.loop-i-test.true) in rw get_or-set_same cell);
      rest = λ k h. let ne : k ≢ c.loop-i.i = omega arith in rw get_or-set_other (c.loop-i.invariant.rest k (omega (arith, h)));
      same = c.meets-is_met.ensures.same ∙ c.loop-i.invariant.same;
      least = rw c.meets-is_met.ensures.raised (least_more (g.Self.Gauge.reaches c.args.self.now c.args.trace.now.stroke.now c.args.page.now c.args.trace.now.dots c.args.row) c.args.from c.loop-i.i (count c.args.self.now) (count c.loop-i.self) c.loop-i.invariant.least);
      most = rw c.meets-is_met.ensures.raised (most_more (count c.args.self.now) (count c.loop-i.self) c.loop-i.i c.loop-i.invariant.most);
      grows = rw c.meets-is_met.ensures.raised (grows_more (count c.args.self.now) (count c.loop-i.self) c.loop-i.invariant.grows);
    }
