use Rattle.areas.specs.Views.{areas_in}
use Rattle.areas.proofs.NextShapes.{stroke_next}
use Rattle.areas.proofs.walk.ShapeWalk.pass_stroke.Goals as goal

pub returns : goal.returns
returns c =
    let walk = c.args.self.now in
    stroke_next walk.at walk.strokes.now (areas_in walk.areas) c.index-strokes-at.result c.requires.within c.index-strokes-at.is c.requires.apart
