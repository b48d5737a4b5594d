use Rattle.turning.proofs.AreaTurns.{areas_cover}
use Rattle.turning.proofs.laws.turned_areas_cover.Goals as goal

pub returns : goal.returns
returns c = areas_cover
