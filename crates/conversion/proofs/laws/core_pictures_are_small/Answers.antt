use Rattle.conversion.proofs.CoreSizes.{core_is_small}
use Rattle.conversion.proofs.laws.core_pictures_are_small.Goals as goal

pub returns : goal.returns
returns c = core_is_small
