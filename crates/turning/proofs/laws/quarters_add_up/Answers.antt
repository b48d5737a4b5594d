use Rattle.turning.proofs.Sums.{quarters_add_up}
use Rattle.turning.proofs.laws.quarters_add_up.Goals as goal

pub returns : goal.returns
returns c = quarters_add_up
