use Rattle.stroke_runs.specs.Drawn.{drawn}
use Rattle.stroke_runs.proofs.RunLaws.{all_of}
use Rattle.stroke_runs.proofs.laws.runs_are_all.Goals as goal

pub returns : goal.returns
returns c = all_of (drawn c.args.pens.now c.args.strokes.now)
