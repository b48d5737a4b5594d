-- How a vector document shows strokes, and which labels it has.
use Rattle.std.specs.Prelude.{pos, ◌*◌, max, Bool, List, [], ◌∷◌, map}
use Rattle.std.specs.List.{list_any}
use Rattle.areas.specs.Shapes.{Shape}
use Rattle.labels.specs.Labels.{LabelShape}
use Rattle.plot_page.specs.Segments.{Segment}
use Rattle.plot_page.specs.declared.page.Page.{Page}
use Rattle.plot_page.specs.declared.pens.PenSet.{PenSet}
use Rattle.plot_page.specs.declared.window.Window.{Window}
use Rattle.stroke_runs.specs.Drawn.{is_drawn, is_same_window}
use Rattle.stroke_runs.specs.Sheets.{between}
use Rattle.stroke_runs.specs.declared.shown.TheConstants.{LEAST_WIDTH}

-- a stroke as a document shows it: at least 24 grains wide
abbrev pub widened : Segment → Segment
widened s = record s { width = max LEAST_WIDTH s.width }

-- a stroke with the pen, the colour, the width and the window of another one
abbrev pub drawn_as : Segment → Segment → Segment
drawn_as other s = record s { pen = other.pen; colour = other.colour; width = other.width; window = other.window }

-- strokes as a document shows them in one path: all are drawn as the first one
abbrev pub shown_as_first : List Segment → List Segment
shown_as_first [] = []
shown_as_first (s ∷ ss) = widened s ∷ map (λ e. widened (drawn_as s e)) ss

-- a shape as a document shows it
abbrev pub shown_shape : Shape → Shape
shown_shape shape = record shape { strokes = shown_as_first shape.strokes }

-- the whole page as a window
abbrev pub whole_page : Page → Window
whole_page page = record { x0 = pos 0; y0 = pos 0; x1 = pos (16 * page.width); y1 = pos (16 * page.height) }

abbrev pub is_whole_page : Page → Window → Bool
is_whole_page page window = is_same_window window (whole_page page)

-- a label of a sheet is shown if one of its strokes is drawn
abbrev pub is_shown : PenSet → List Segment → LabelShape → Bool
is_shown pens strokes l = list_any (is_drawn pens) (between strokes l.first l.after)
