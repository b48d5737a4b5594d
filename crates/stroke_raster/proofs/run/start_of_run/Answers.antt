use Rattle.std.proofs.Common.{◌+◌, ◌<◌, arith, sym, ◌∙◌}
use Rattle.stroke_raster.proofs.RunLemmas.{unmet_before}
use Rattle.stroke_raster.proofs.run.start_of_run.Goals as goal

pub parts-preserved : goal.parts-preserved
parts-preserved c =
    let at : c.parts.low + c.min.result < c.parts.end = omega (arith, c.parts-test.true, c.min.ensures) in
    let n = sym c.meets_pixel.ensures ∙ c.if-meets_pixel.false in
    record {
      low = omega (arith, c.parts.invariant.low);
      order = omega (arith, at);
      high = c.parts.invariant.high;
      before = λ i u v. unmet_before c.args.trace.now c.args.start i (c.parts.low + c.min.result) c.parts.end (omega (arith, v)) (omega (arith, at)) n c.parts.invariant.at;
      at = c.parts.invariant.at;
    }
