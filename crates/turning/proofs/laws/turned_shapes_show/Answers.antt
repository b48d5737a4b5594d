use Rattle.turning.proofs.ShapesTurned.{shapes_show}
use Rattle.turning.proofs.laws.turned_shapes_show.Goals as goal

pub returns : goal.returns
returns c = shapes_show
