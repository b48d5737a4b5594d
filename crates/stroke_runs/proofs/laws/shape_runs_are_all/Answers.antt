use Rattle.areas.specs.Views.{areas_in}
use Rattle.stroke_runs.proofs.ShapeLaws.{all_shapes}
use Rattle.stroke_runs.proofs.laws.shape_runs_are_all.Goals as goal

pub returns : goal.returns
returns c = all_shapes c.args.pens.now c.args.strokes.now (areas_in c.args.areas)
