-- Which places are inside of shapes.
use Rattle.std.specs.Prelude.{ℕ, Bool, false, List, ℤ, Option, Some, None}
use Rattle.plot_page.specs.Segments.{Segment}
use Rattle.polygons.specs.declared.lines.Rule.{Rule}
use Rattle.areas.specs.Inside.{is_inside_area}
use Rattle.areas.specs.Shapes.{Shape}

abbrev pub is_inside_by : Option Rule → ℕ → List Segment → ℤ → ℤ → Bool
is_inside_by None r strokes x y = false
is_inside_by (Some rule) r strokes x y = is_inside_area rule r strokes x y

-- a place is inside of an area by its rule, and of a stroke never
abbrev pub is_inside_shape : Shape → ℕ → ℤ → ℤ → Bool
is_inside_shape shape r x y = is_inside_by shape.rule r shape.strokes x y
