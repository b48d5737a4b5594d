use Rattle.conversion.proofs.Placements.{placed_alike}
use Rattle.conversion.proofs.laws.plots_have_one_place.Goals as goal

pub returns : goal.returns
returns c choice rules pens given plot p q a b = placed_alike choice rules pens given plot p q a b
