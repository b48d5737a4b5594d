-- What operators draw, read one after another. ISO 32000-1, 8.4.4, 8.5.2, 8.5.3, 8.5.4, 9.4 and 14.6.
use Rattle.std.specs.Prelude.{ℕ, ℤ, pos, ◌&&◌, Bool, if◌then◌else◌, List, [], ◌∷◌, ◌++◌, map, Option, Some, None}
use Rattle.std.specs.Ordering.{int_eq}
use Rattle.plot_page.specs.Segments.{Segment}
use Rattle.plot_page.specs.declared.colour.Colour.{Colour}
use Rattle.plot_page.specs.declared.page.Page.{Page}
use Rattle.plot_page.specs.declared.window.Window.{Window}
use Rattle.polygons.specs.declared.lines.Rule.{Rule}
use Rattle.areas.specs.Shapes.{Shape}
use Rattle.stroke_runs.specs.Shown.{shown_as_first, whole_page}
use Rattle.pdf.specs.Operators.{Operator, Scale, Layer, EndLayer, Save, Restore, Rectangle, Clip, NoPaint, StrokeColour}
use Rattle.pdf.specs.Operators.{FillColour, LineWidth, LineEnds, LineJoins, MoveTo, LineTo, ClosePath, StrokePath, FillAndStroke}
use Rattle.pdf.specs.Operators.{BeginText, Invisible, TextMatrix, Font, ShowText, EndText}

-- what is set: how lines are drawn, how what is inside them is filled, and the window that both are seen in
pub record Graphics : Type 0 where
  pub colour : Colour
  pub fill : Colour
  pub width : ℕ
  pub window : Window

-- a line of a path
pub record Line : Type 0 where
  pub ax : ℤ
  pub ay : ℤ
  pub bx : ℤ
  pub by : ℤ

-- how what is inside lines was filled
pub record Fill : Type 0 where
  pub colour : Colour
  pub rule : Rule

-- what was painted: a line, or what is inside lines, and then these lines
pub record Painted : Type 0 where
  pub lines : List Segment
  pub fill : Option Fill

-- after some operators: the layer's pen or 0, what is set and what was saved, the rectangle, where the lines began that
-- lead to the place, the place, the path's lines, and what was painted
pub record Reading : Type 0 where
  pub pen : ℕ
  pub set : Graphics
  pub saved : List Graphics
  pub rectangle : Window
  pub start_x : ℤ
  pub start_y : ℤ
  pub x : ℤ
  pub y : ℤ
  pub lines : List Line
  pub painted : List Painted

abbrev pub black : Colour
black = record { red = 0; green = 0; blue = 0 }

-- at the start of a page lines are black and of width 1, what is inside them is black, and the window is the page
abbrev pub start_of : Page → Reading
start_of page = record {
  pen = 0;
  set = record { colour = black; fill = black; width = 1; window = whole_page page };
  saved = [];
  rectangle = whole_page page;
  start_x = pos 0;
  start_y = pos 0;
  x = pos 0;
  y = pos 0;
  lines = [];
  painted = [];
}

-- a line as a stroke of this pen
abbrev pub painted_line : ℕ → Graphics → Line → Segment
painted_line pen set line = record {
  pen = pen;
  colour = set.colour;
  width = set.width;
  window = set.window;
  ax = line.ax;
  ay = line.ay;
  bx = line.bx;
  by = line.by;
}

abbrev pub line_painted : Segment → Painted
line_painted s = record { lines = s ∷ []; fill = None }

-- the place is where the lines began that lead to it
abbrev pub is_back : Reading → Bool
is_back r = int_eq r.start_x r.x && int_eq r.start_y r.y

-- a line to a place
abbrev pub reached : Reading → ℤ → ℤ → Reading
reached r x y = record r { x = x; y = y; lines = r.lines ++ record { ax = r.x; ay = r.y; bx = x; by = y } ∷ [] }

abbrev pub restored : Reading → List Graphics → Reading
restored r [] = r
restored r (set ∷ saved) = record r { set = set; saved = saved }

-- what an operator does; a rectangle clips within the whole page, since each run restores what was set before it. Lines
-- that do not lead back are filled as if they did
abbrev pub after : Reading → Operator → Reading
after r (Layer pen) = record r { pen = pen }
after r EndLayer = record r { pen = 0 }
after r Save = record r { saved = r.set ∷ r.saved }
after r Restore = restored r r.saved
after r (Rectangle corners) = record r { rectangle = corners }
after r Clip = record r { set = record r.set { window = r.rectangle } }
after r (StrokeColour colour) = record r { set = record r.set { colour = colour } }
after r (FillColour colour) = record r { set = record r.set { fill = colour } }
after r (LineWidth width) = record r { set = record r.set { width = width } }
after r (MoveTo x y) = record r { start_x = x; start_y = y; x = x; y = y }
after r (LineTo x y) = reached r x y
after r ClosePath = if is_back r then r else reached r r.start_x r.start_y
after r StrokePath =
    record r { lines = []; painted = r.painted ++ map (λ line. line_painted (painted_line r.pen r.set line)) r.lines }
after r (FillAndStroke rule) = record r {
  lines = [];
  painted = r.painted ++ record { lines = map (painted_line r.pen r.set) r.lines; fill = Some (record { colour = r.set.fill; rule = rule }) } ∷ [];
}
after r (Scale unit) = r
after r NoPaint = r
after r LineEnds = r
after r LineJoins = r
after r BeginText = r
after r Invisible = r
after r (TextMatrix matrix x y) = r
after r (Font row) = r
after r (ShowText bytes) = r
after r EndText = r

-- operators are read one after another
abbrev pub read : Reading → List Operator → Reading
read r [] = r
read r (o ∷ os) = read (after r o) os

-- a shape as it is painted: an area is filled in the colour of its first edge
abbrev pub fill_by : Option Rule → List Segment → Option Fill
fill_by (Some rule) (s ∷ ss) = Some (record { colour = s.colour; rule = rule })
fill_by _ _ = None

abbrev pub shape_painted : Shape → Painted
shape_painted shape = record { lines = shown_as_first shape.strokes; fill = fill_by shape.rule shape.strokes }
