use Rattle.character_sets.proofs.SignCounts.{few}
use Rattle.character_sets.proofs.laws.signs_are_few.Goals as goal

pub returns : goal.returns
returns c = few
