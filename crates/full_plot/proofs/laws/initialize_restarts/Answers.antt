use Rattle.full_plot.proofs.Restarts.{restarts}
use Rattle.full_plot.proofs.laws.initialize_restarts.Goals as goal

pub returns : goal.returns
returns c = restarts
