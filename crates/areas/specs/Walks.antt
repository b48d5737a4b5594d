-- Which shapes a walk has not come to yet.
use Rattle.std.specs.Prelude.{◌≡◌, List, [], ◌∷◌, Some}
use Rattle.areas.specs.Shapes.{Shape, shapes_after, stroke_shape}
use Rattle.areas.specs.Views.{areas_in}
use Rattle.areas.specs.declared.walk.NextShape.{NextShape}
use Rattle.areas.specs.declared.walk.NextShape.TheVariants.{Stroke, Area}
use Rattle.areas.specs.declared.walk.ShapeWalk.{ShapeWalk}

abbrev pub shape_in : NextShape → Shape
shape_in (Stroke s) = stroke_shape s.now
shape_in (Area edges rule) = record { strokes = edges.now; rule = Some rule }

-- the shapes that are left
abbrev pub shapes_left : ShapeWalk → List Shape
shapes_left walk = shapes_after walk.at walk.strokes.now (areas_in walk.areas)

-- a shape is the first of those that were left, and these others are left now
abbrev pub IsNext : NextShape → List Shape → List Shape → Type 0
IsNext shape before after = before ≡ shape_in shape ∷ after

-- no strokes belong to a shape
abbrev pub HasNoStrokes : Shape → Type 0
HasNoStrokes shape = shape.strokes ≡ []
