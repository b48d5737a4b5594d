use Rattle.std.proofs.Common.{[]}
use Rattle.areas.specs.Shapes.{shapes}
use Rattle.areas.specs.Views.{areas_in}
use Rattle.stroke_runs.specs.Drawn.{drawn_shapes}
use Rattle.stroke_runs.proofs.ShapeLaws.{are_after}
use Rattle.stroke_runs.proofs.laws.shape_runs_are_alike.Goals as goal

pub returns : goal.returns
returns c = are_after [] (drawn_shapes c.args.pens.now (shapes c.args.strokes.now (areas_in c.args.areas)))
