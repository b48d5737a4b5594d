use Rattle.plot_frame.proofs.Theorems.{solved_is_solution_lem}
use Rattle.plot_frame.proofs.laws.solved_is_solution.Goals as goal

pub returns : goal.returns
returns c = solved_is_solution_lem
