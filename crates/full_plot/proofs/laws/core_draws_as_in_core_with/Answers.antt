use Rattle.full_plot.proofs.CorePlots.{draws_as_in_core_with}
use Rattle.full_plot.proofs.laws.core_draws_as_in_core_with.Goals as goal

pub returns : goal.returns
returns c = draws_as_in_core_with
