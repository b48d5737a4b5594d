-- What the paths of a document show, by the rules of SVG 1.1, 8.3.
use Rattle.std.specs.Prelude.{ℕ, ℤ, pos, ◌*◌, ◌+ℤ◌, ◌-ℤ◌, List, [], ◌∷◌, flat_map, map, Option, Some, None}
use Rattle.areas.specs.Shapes.{Shape}
use Rattle.plot_page.specs.Segments.{Segment}
use Rattle.plot_page.specs.declared.page.Page.{Page}
use Rattle.plot_page.specs.declared.pens.PenSet.{PenSet}
use Rattle.plot_page.specs.declared.window.Window.{Window}
use Rattle.stroke_runs.specs.Laws.{split}
use Rattle.svg.specs.declared.places.Place.{Place}
use Rattle.svg.specs.declared.places.Rectangle.{Rectangle}
use Rattle.svg.specs.Commands.{Command, MoveTo, LineTo, MoveBy, LineBy}
use Rattle.svg.specs.Parts.{Part, Plain, Group, parts}
use Rattle.svg.specs.Paths.{Path}
use Rattle.svg.specs.Places.{moved}
use Rattle.svg.specs.Sheets.{Sheet}

-- the lines that commands draw, each from a place to a place, from where the commands begin
abbrev pub lines_from : Place → List Command → List (Place × Place)
lines_from at [] = []
lines_from at (MoveTo p ∷ cs) = lines_from p cs
lines_from at (MoveBy p ∷ cs) = lines_from (moved at p) cs
lines_from at (LineTo p ∷ cs) = (at, p) ∷ lines_from p cs
lines_from at (LineBy p ∷ cs) = (at, moved at p) ∷ lines_from (moved at p) cs

-- the size of a drawing in grains
pub record Size : Type 0 where
  pub width : ℕ
  pub height : ℕ

abbrev pub size_of : Page → Size
size_of page = record { width = 16 * page.width; height = 16 * page.height }

-- a y of a document, which grows downward, from the lower edge upward
abbrev pub upward : Size → ℤ → ℤ
upward size y = pos size.height -ℤ y

-- the window that a rectangle is
abbrev pub window_of : Size → Rectangle → Window
window_of size r =
    record { x0 = r.x; y0 = upward size (r.y +ℤ r.height); x1 = r.x +ℤ r.width; y1 = upward size r.y }

-- the window of a path: the whole drawing, if it is not clipped
abbrev pub seen_in : Size → Option Rectangle → Window
seen_in size None = record { x0 = pos 0; y0 = pos 0; x1 = pos size.width; y1 = pos size.height }
seen_in size (Some r) = window_of size r

-- a line of a path as a stroke of its own colour, width and window
abbrev pub stroke_of : Size → Path → Place × Place → Segment
stroke_of size p l = record {
  pen = p.pen;
  colour = p.colour;
  width = p.width;
  window = seen_in size p.clip;
  ax = l.0.x;
  ay = upward size l.0.y;
  bx = l.1.x;
  by = upward size l.1.y;
}

-- the strokes of a path; its first command goes to a place from the corner of the drawing
abbrev pub strokes_of : Size → Path → List Segment
strokes_of size p = map (stroke_of size p) (lines_from (record { x = pos 0; y = pos 0 }) p.commands)

-- the shapes of a path: one area if it is filled, else its strokes
abbrev pub shapes_of : Size → Path → List Shape
shapes_of size p = split (record { strokes = strokes_of size p; rule = p.rule })

abbrev pub read_paths : Size → List Path → List Shape
read_paths size paths = flat_map (shapes_of size) paths

-- the paths of a part, and its titles
abbrev pub part_paths : Part → List Path
part_paths (Plain paths) = paths
part_paths (Group text paths) = paths

abbrev pub part_titles : Part → List (List ℕ)
part_titles (Plain paths) = []
part_titles (Group text paths) = text ∷ []

-- the paths of parts
abbrev pub paths_in : List Part → List Path
paths_in parts = flat_map part_paths parts

-- the shapes of parts, and their titles
abbrev pub read_parts : Size → List Part → List Shape
read_parts size parts = read_paths size (paths_in parts)

abbrev pub titles : List Part → List (List ℕ)
titles parts = flat_map part_titles parts

-- the parts of sheets, one sheet after another
abbrev pub parts_of_sheets : Page → PenSet → List Sheet → List Part
parts_of_sheets page pens sheets = flat_map (λ sheet. parts page pens sheet.strokes sheet.areas sheet.labels) sheets

-- the shapes of sheets
abbrev pub read_sheets : Page → PenSet → List Sheet → List Shape
read_sheets page pens sheets =
    flat_map (λ sheet. read_parts (size_of page) (parts page pens sheet.strokes sheet.areas sheet.labels)) sheets
