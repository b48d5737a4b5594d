-- Which strokes are drawn, and which of them are drawn in one way.
use Rattle.std.specs.Prelude.{int_le, ◌==◌, ◌&&◌, Bool, false, List, [], ◌∷◌, filter}
use Rattle.std.specs.Ordering.{int_eq}
use Rattle.areas.specs.Shapes.{Shape}
use Rattle.plot_page.specs.Pens.{has_pen}
use Rattle.plot_page.specs.Segments.{Segment}
use Rattle.plot_page.specs.declared.colour.Colour.{Colour}
use Rattle.plot_page.specs.declared.pens.PenSet.{PenSet}
use Rattle.plot_page.specs.declared.window.Window.{Window}

-- a window holds a place, if only one on its edges
abbrev pub has_place : Window → Bool
has_place w = int_le w.x0 w.x1 && int_le w.y0 w.y1

-- the pen is selected, and the window holds a place
abbrev pub is_drawn : PenSet → Segment → Bool
is_drawn pens s = has_pen pens s.pen && has_place s.window

-- the strokes that are drawn
abbrev pub drawn : PenSet → List Segment → List Segment
drawn pens strokes = filter (is_drawn pens) strokes

-- a shape is drawn if its first stroke is: the edges of an area have the same pen and the same window
abbrev pub begins_drawn : PenSet → List Segment → Bool
begins_drawn pens [] = false
begins_drawn pens (s ∷ ss) = is_drawn pens s

-- the shapes that are drawn
abbrev pub drawn_shapes : PenSet → List Shape → List Shape
drawn_shapes pens shapes = filter (λ shape. begins_drawn pens shape.strokes) shapes

abbrev pub is_same_colour : Colour → Colour → Bool
is_same_colour a b = (a.red == b.red && a.green == b.green) && a.blue == b.blue

-- the same corners
abbrev pub is_same_window : Window → Window → Bool
is_same_window a b = ((int_eq a.x0 b.x0 && int_eq a.y0 b.y0) && int_eq a.x1 b.x1) && int_eq a.y1 b.y1

-- drawn in one way: with the same pen, width, colour and window
abbrev pub is_alike : Segment → Segment → Bool
is_alike a b =
    ((a.pen == b.pen && a.width == b.width) && is_same_colour a.colour b.colour) && is_same_window a.window b.window

-- a stroke begins where the last one ends
abbrev pub is_joined : Segment → Segment → Bool
is_joined last next = int_eq next.ax last.bx && int_eq next.ay last.by
