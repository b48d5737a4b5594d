use Rattle.directions.proofs.Axes.{axes_are_exact_lem}
use Rattle.directions.proofs.laws.axes_are_exact.Goals as goal

pub returns : goal.returns
returns c = axes_are_exact_lem
