use Rattle.std.proofs.Common.{◌-◌, arith}
use Rattle.stroke_raster.proofs.RunLemmas.{met_run}
use Rattle.stroke_raster.proofs.run.searched.Goals as goal

pub returns-clause-inside : goal.returns-clause-inside
returns-clause-inside c = λ i u v.
    met_run c.args.trace.now c.args.start c.first_covered-low.result (c.end_of_covered-end.result - 1) i
    (c.first_covered-low.ensures.at (omega (arith, u, v, c.end_of_covered-end.ensures.high)))
    (c.end_of_covered-end.ensures.at (omega (arith, u, v)))
    u (omega (arith, v))

pub returns-then-meets_pixel-clause-inside : goal.returns-then-meets_pixel-clause-inside
returns-then-meets_pixel-clause-inside c = λ i u v.
    met_run c.args.trace.now c.args.start c.start_of_run.result (c.end_of_run.result - 1) i
    c.start_of_run.ensures.at c.end_of_run.ensures.at u (omega (arith, v))
