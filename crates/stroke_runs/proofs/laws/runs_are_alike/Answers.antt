use Rattle.stroke_runs.specs.Drawn.{drawn}
use Rattle.stroke_runs.proofs.RunLaws.{alike_of}
use Rattle.stroke_runs.proofs.laws.runs_are_alike.Goals as goal

pub returns : goal.returns
returns c = alike_of (drawn c.args.pens.now c.args.strokes.now)
