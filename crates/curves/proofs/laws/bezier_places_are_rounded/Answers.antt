use Rattle.curves.proofs.BezierLaws.{bezier_places_are_rounded_lem}
use Rattle.curves.proofs.laws.bezier_places_are_rounded.Goals as goal

pub returns : goal.returns
returns c = bezier_places_are_rounded_lem
