use Rattle.std.proofs.Common.{arith}
use Rattle.std.proofs.lemmas.Bool.Decides.{nat_tests}
use Rattle.smoothing.proofs.Totals.{none_of_eight}
use Rattle.smoothing.proofs.sums.are_blank.Goals as goal

pub returns : goal.returns
returns c = λ is k lt. none_of_eight c.args.cells.now (grind (arith, nat_tests, is)) k lt
