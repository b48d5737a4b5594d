use Rattle.std.proofs.Common.{◌-◌, arith}
use Rattle.stroke_raster.proofs.RunLemmas.{met_run}
use Rattle.stroke_raster.proofs.run.run_from.Goals as goal

pub returns-then-meets_ends-clause-inside : goal.returns-then-meets_ends-clause-inside
returns-then-meets_ends-clause-inside c = λ i u v.
    let e = c.meets_ends.ensures in
    let t = c.if-meets_ends.true in
    met_run c.args.trace.now c.args.start c.strip-span.result.low (c.strip-span.result.end - 1) i (e.first t) (e.last t) u (omega (arith, v))
