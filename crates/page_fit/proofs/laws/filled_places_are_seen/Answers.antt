use Rattle.page_fit.proofs.InsideBoxes.{filled_places_are_seen}
use Rattle.page_fit.proofs.laws.filled_places_are_seen.Goals as goal

pub returns : goal.returns
returns c = filled_places_are_seen
