use Rattle.std.proofs.Common.{◌≡◌, ℕ, ◌-◌, ◌<◌, arith, sym, ap, ◌∙◌}
use Rattle.stroke_raster.specs.Traces.{is_met}
use Rattle.stroke_raster.proofs.RunLemmas.{unmet_after}
use Rattle.stroke_raster.proofs.run.end_of_run.Goals as goal

pub parts-preserved : goal.parts-preserved
parts-preserved c =
    let at : c.parts.last < c.parts.end - 1 - c.min.result = omega (arith, c.parts-test.true, c.min.ensures) in
    let n = sym c.meets_pixel.ensures ∙ c.if-meets_pixel.false in
    record {
      low = c.parts.invariant.low;
      order = at;
      high = omega (arith, c.parts.invariant.high);
      after = λ i u v. unmet_after c.args.trace.now c.args.start i (c.parts.end - 1 - c.min.result) c.parts.last u (omega (arith, at)) n c.parts.invariant.at;
      at = c.parts.invariant.at;
    }

pub returns-clause-at : goal.returns-clause-at
returns-clause-at c =
    let e : c.parts.end - 1 ≡ c.parts.last = omega (arith, c.parts-test.false, c.parts.invariant.order) in
    ap (λ (n : ℕ). is_met c.args.trace.now c.args.start n) e ∙ c.parts.invariant.at
