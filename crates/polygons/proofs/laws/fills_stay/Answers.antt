use Rattle.polygons.proofs.Stays.{fills_stay_lem}
use Rattle.polygons.proofs.laws.fills_stay.Goals as goal

pub returns : goal.returns
returns c = fills_stay_lem
