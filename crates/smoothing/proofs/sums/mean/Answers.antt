use Rattle.std.proofs.Common.{◌∙◌, ap, sym}
use Rattle.std.proofs.Math.Facts.{Fits-of_lt}
use Rattle.smoothing.specs.Smoothings.{mean}
use Rattle.smoothing.proofs.Totals.{mean_small, mean_white}
use Rattle.smoothing.proofs.sums.mean.Goals as goal

pub returns-then-sum-count : goal.returns-then-sum-count
returns-then-sum-count c = sym (ap (mean c.args.times) c.if-sum-count.true ∙ mean_white c.args.times c.requires.least)

pub overflow_cast-result-2 : goal.overflow_cast-result-2
overflow_cast-result-2 c = Fits-of_lt (mean_small c.args.times c.args.sum c.requires.least c.requires.sum)
