use Rattle.plot_frame.proofs.Theorems.{back_solves_lem}
use Rattle.plot_frame.proofs.laws.back_solves.Goals as goal

pub returns : goal.returns
returns c = back_solves_lem
