use Rattle.full_plot.proofs.CorePlots.{runs_as_in_core}
use Rattle.full_plot.proofs.laws.core_runs_as_in_core.Goals as goal

pub returns : goal.returns
returns c = runs_as_in_core
