use Rattle.areas.proofs.Directions.{direction_is_free_lem}
use Rattle.areas.proofs.laws.direction_is_free.Goals as goal

pub returns : goal.returns
returns c = direction_is_free_lem
