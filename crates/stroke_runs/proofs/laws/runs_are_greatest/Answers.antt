use Rattle.stroke_runs.specs.Drawn.{drawn}
use Rattle.stroke_runs.proofs.RunLaws.{greatest_of}
use Rattle.stroke_runs.proofs.laws.runs_are_greatest.Goals as goal

pub returns : goal.returns
returns c = greatest_of (drawn c.args.pens.now c.args.strokes.now)
