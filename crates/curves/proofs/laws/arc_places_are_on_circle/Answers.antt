use Rattle.curves.proofs.ArcLaws.{arc_places_are_on_circle_lem}
use Rattle.curves.proofs.laws.arc_places_are_on_circle.Goals as goal

pub returns : goal.returns
returns c = arc_places_are_on_circle_lem
