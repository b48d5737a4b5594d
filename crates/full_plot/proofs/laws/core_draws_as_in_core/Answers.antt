use Rattle.full_plot.proofs.CorePlots.{draws_as_in_core}
use Rattle.full_plot.proofs.laws.core_draws_as_in_core.Goals as goal

pub returns : goal.returns
returns c = draws_as_in_core
