use Rattle.std.proofs.Common.{◌≡◌, ℕ, ◌+◌, Bool, cond, sym, ap, ◌∙◌}
use Rattle.plot_page.specs.Segments.{Segment}
use Rattle.plot_page.specs.declared.page.Page.{Page}
use Rattle.plot_page.specs.declared.dots.Dots.{Dots}
use Rattle.stroke_raster.proofs.Inks.{reached_step}
use Rattle.stroke_raster.proofs.Reached.{least_more, most_more, grows_more}
use Rattle.stroke_raster.proofs.gauge.Gauge.ink.Goals.{then-is_met, else-is_met}
use Rattle.stroke_raster.proofs.gauge.Gauge.ink.Goals as goal

pub loop-i-preserved : goal.loop-i-preserved
loop-i-preserved g c =
    let count = g.Self.Gauge.count in
    let reached_at = λ (k : ℕ). g.Self.Gauge.reaches c.args.self.now c.args.trace.now.stroke.now c.args.page.now c.args.trace.now.dots c.args.row k in
    let inv = c.loop-i.invariant in
    let at : ℕ = c.args.from + c.loop-i.i in
    let met : c.meets-is_met.result ≡ reached_at at =
    c.meets-is_met.ensures.answer ∙ ap (λ (f : Segment → Page → Dots → ℕ → ℕ → Bool). f c.args.trace.now.stroke.now c.args.page.now c.args.trace.now.dots c.args.row at) inv.same in
    let end : c.if-is_met.end ≡ cond (reached_at at) (at + 1) at = elim c.if-is_met.branch [
      | then-is_met w ↦ w.end-is ∙ sym (ap (λ (b : Bool). cond b (at + 1) at) (sym met ∙ w.if-is_met.true))
      | else-is_met w ↦ w.end-is ∙ sym (ap (λ (b : Bool). cond b (at + 1) at) (sym met ∙ w.if-is_met.false))
    ] in
    record {
      bits = reached_step reached_at c.args.from c.loop-i.i c.if-is_met.end c.args.line.now c.loop-i.line c.ink_run.new.line end inv.bits c.ink_run.ensures;
      same = c.meets-is_met.ensures.same ∙ inv.same;
      least = rw c.meets-is_met.ensures.raised (least_more reached_at c.args.from c.loop-i.i (count c.args.self.now) (count c.loop-i.self) inv.least);
      most = rw c.meets-is_met.ensures.raised (most_more (count c.args.self.now) (count c.loop-i.self) c.loop-i.i inv.most);
      grows = rw c.meets-is_met.ensures.raised (grows_more (count c.args.self.now) (count c.loop-i.self) inv.grows);
    }
