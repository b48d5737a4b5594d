use Rattle.areas.specs.Views.{areas_in}
use Rattle.areas.proofs.NextShapes.{none_left}
use Rattle.areas.proofs.walk.ShapeWalk.next.Goals as goal

pub returns-then-self-clause-none : goal.returns-then-self-clause-none
returns-then-self-clause-none c =
    let walk = c.args.self.now in
    none_left walk.at walk.strokes.now (areas_in walk.areas) walk.apart c.if-self.true
