use Rattle.stroke_runs.proofs.ShapeLaws.{runs_of_strokes}
use Rattle.stroke_runs.proofs.laws.runs_without_areas.Goals as goal

pub returns : goal.returns
returns c = runs_of_strokes c.args.pens.now c.args.strokes.now
