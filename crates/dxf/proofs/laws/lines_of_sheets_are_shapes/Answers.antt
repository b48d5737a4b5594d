use Rattle.areas.specs.Views.{areas_in}
use Rattle.areas.proofs.Apart.{apart_in}
use Rattle.dxf.proofs.ShapesLaw.{sheets_seen}
use Rattle.dxf.proofs.laws.lines_of_sheets_are_shapes.Goals as goal

pub returns : goal.returns
returns c = sheets_seen c.args.pens.now c.args.strokes.now (areas_in c.args.areas) (apart_in c.args.areas) c.args.ends.now c.requires.ends c.requires.outlined
