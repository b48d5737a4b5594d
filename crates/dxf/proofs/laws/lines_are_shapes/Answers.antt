use Rattle.areas.specs.Shapes.{shapes}
use Rattle.areas.specs.Views.{areas_in}
use Rattle.areas.proofs.Apart.{apart_in}
use Rattle.dxf.proofs.ShapesLaw.{drawn_end, outlined_good, shapes_seen}
use Rattle.dxf.proofs.laws.lines_are_shapes.Goals as goal

pub returns-clause-lines : goal.returns-clause-lines
returns-clause-lines c = λ sheet.
    let areas = areas_in c.args.areas in
    shapes_seen sheet c.args.pens.now c.args.strokes.now areas (apart_in c.args.areas) (outlined_good c.args.pens.now c.args.strokes.now areas c.requires)

pub returns-clause-closed : goal.returns-clause-closed
returns-clause-closed c =
    let areas = areas_in c.args.areas in
    drawn_end c.args.pens.now (shapes c.args.strokes.now areas) (outlined_good c.args.pens.now c.args.strokes.now areas c.requires)
