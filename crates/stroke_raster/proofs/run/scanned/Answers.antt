use Rattle.std.proofs.Common.{◌≡◌, ◌+◌, ◌-◌, ◌≤◌, arith, inl, inr, ap, ◌∙◌, Bool, cond, min}
use Rattle.std.proofs.lemmas.Bool.{cases_Bool}
use Rattle.stroke_raster.specs.declared.vector.Vector.{Vector}
use Rattle.stroke_raster.specs.Traces.{is_met, is_near}
use Rattle.stroke_raster.proofs.RunLemmas.{met_run}
use Rattle.stroke_raster.proofs.Scans.{scan_met, scan_unmet}
use Rattle.stroke_raster.proofs.run.scanned.Goals as goal

pub loop-i-preserved : goal.loop-i-preserved
loop-i-preserved c =
    let t = c.args.trace.now in
    let start = c.args.start in
    let i = c.loop-i.i in
    let inv = c.loop-i.invariant in
    let met : c.meets_evenly-is_met.result ≡ is_met t start i =
    c.meets_evenly-is_met.ensures ∙ ap (λ (w : Vector). is_near t w) c.pixel_at.ensures.value in
    elim (cases_Bool (is_met t start i)) [
      | inl e ↦ (let low : c.first_met-low.result ≡ min c.loop-i.low i = c.first_met-low.ensures ∙ ap (λ (b : Bool). cond b (min c.loop-i.low i) c.loop-i.low) (met ∙ e) in
          let end : c.past_met-end.result ≡ i + 1 = c.past_met-end.ensures ∙ ap (λ (b : Bool). cond b (i + 1) c.loop-i.end) (met ∙ e) in
          let next = scan_met t start c.args.length i c.loop-i.low c.loop-i.end c.first_met-low.result c.past_met-end.result c.loop-i-test.true e low end inv.low_in inv.end_in inv.before inv.first inv.some in
          record {
            low_in = next.low_in;
            end_in = next.end_in;
            before = next.before;
            after = next.after;
            first = next.first;
            last = next.last;
            some = next.some;
            none = next.none;
          })
      | inr e ↦ (let low : c.first_met-low.result ≡ c.loop-i.low = c.first_met-low.ensures ∙ ap (λ (b : Bool). cond b (min c.loop-i.low i) c.loop-i.low) (met ∙ e) in
          let end : c.past_met-end.result ≡ c.loop-i.end = c.past_met-end.ensures ∙ ap (λ (b : Bool). cond b (i + 1) c.loop-i.end) (met ∙ e) in
          rw (low, end) record {
            low_in = inv.low_in;
            end_in = omega (arith, inv.end_in);
            before = λ j u v. scan_unmet t start i e j (λ l. inv.before j l v) u;
            after = λ j u v. scan_unmet t start i e j (λ l. inv.after j u l) v;
            first = inv.first;
            last = inv.last;
            some = inv.some;
            none = inv.none;
          })
    ]

pub returns-clause-before : goal.returns-clause-before
returns-clause-before c = λ i u.
    let inv = c.loop-i.invariant in
    inv.before i (omega (arith, u, inv.end_in, inv.low_in, c.min.ensures)) (omega (arith, u, c.min.ensures))

pub returns-clause-inside : goal.returns-clause-inside
returns-clause-inside c = λ i u v.
    let inv = c.loop-i.invariant in
    let some = inv.none (omega (arith, v)) in
    let low : c.loop-i.low ≤ i = omega (arith, u, some, c.min.ensures) in
    met_run c.args.trace.now c.args.start c.loop-i.low (c.loop-i.end - 1) i
    (inv.first (omega (arith, some, inv.end_in, c.loop-i-test.false)))
    (inv.last (omega (arith, v)))
    low (omega (arith, v))
