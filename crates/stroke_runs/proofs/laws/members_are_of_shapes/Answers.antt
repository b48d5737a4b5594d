use Rattle.stroke_runs.proofs.RoleLaws.{members_are}
use Rattle.stroke_runs.proofs.laws.members_are_of_shapes.Goals as goal

pub returns : goal.returns
returns c = members_are c.args.pens.now c.args.areas c.args.before c.args.at c.args.end c.args.strokes.now
