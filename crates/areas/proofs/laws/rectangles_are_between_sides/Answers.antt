use Rattle.areas.proofs.Rectangles.{rectangles_are_between_sides_lem}
use Rattle.areas.proofs.laws.rectangles_are_between_sides.Goals as goal

pub returns : goal.returns
returns c = rectangles_are_between_sides_lem
