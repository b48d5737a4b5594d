-- What views of areas and of shapes show.
use Rattle.std.specs.Prelude.{List}
use Rattle.areas.specs.declared.among.Areas.{Areas}
use Rattle.areas.specs.declared.area.Area.{Area}
use Rattle.areas.specs.declared.shapes.Shapes.{Shapes}
use Rattle.areas.specs.Shapes.{ShapeList, all_counted}

-- the areas among some strokes
abbrev pub areas_in : Areas → List Area
areas_in areas = all_counted areas.before areas.list.now

abbrev pub shapes_in : Shapes → ShapeList
shapes_in shapes = record { strokes = shapes.strokes.now; areas = areas_in shapes.areas }
