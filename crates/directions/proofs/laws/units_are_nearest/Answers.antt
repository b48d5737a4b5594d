use Rattle.directions.proofs.Axes.{units_are_nearest_lem}
use Rattle.directions.proofs.laws.units_are_nearest.Goals as goal

pub returns : goal.returns
returns c = units_are_nearest_lem
