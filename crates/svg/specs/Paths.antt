-- The paths of an SVG document: one for each run of strokes, and one for each area. SVG 1.1, 11.3.
use Rattle.std.specs.Prelude.{ℕ, max, List, [], ◌∷◌, ◌++◌, flat_map, Option, Some, None, if◌then◌else◌, codes, decimal}
use Rattle.std.specs.Fmt.{signed_decimal}
use Rattle.areas.specs.Shapes.{Shape}
use Rattle.plot_page.specs.Segments.{Segment}
use Rattle.plot_page.specs.declared.colour.Colour.{Colour}
use Rattle.plot_page.specs.declared.page.Page.{Page}
use Rattle.plot_page.specs.declared.pens.PenSet.{PenSet}
use Rattle.plot_page.specs.declared.window.Window.{Window}
use Rattle.polygons.specs.declared.lines.Rule.{Rule}
use Rattle.polygons.specs.declared.lines.Rule.TheVariants.{OddCounts, Winding}
use Rattle.stroke_runs.specs.Drawn.{is_joined}
use Rattle.stroke_runs.specs.declared.shown.TheConstants.{LEAST_WIDTH}
use Rattle.stroke_runs.specs.Runs.{shape_runs}
use Rattle.stroke_runs.specs.Shown.{is_whole_page}
use Rattle.svg.specs.declared.places.Rectangle.{Rectangle}
use Rattle.svg.specs.Commands.{Command, MoveTo, command_text, line, move}
use Rattle.svg.specs.Numbers.{colour_digits}
use Rattle.svg.specs.Places.{end_of, rectangle_of, start_of}

-- a path: the number of the pen, the colour, the width in grains, the rule by which it is filled if it is an area, what it is
-- clipped to, and its commands
pub record Path : Type 0 where
  pub pen : ℕ
  pub colour : Colour
  pub width : ℕ
  pub rule : Option Rule
  pub clip : Option Rectangle
  pub commands : List Command

-- the line of a stroke
abbrev pub line_of : Page → Segment → Command
line_of page s = line (start_of page s) (end_of page s)

-- the commands of a stroke after another one in its run
abbrev pub next_commands : Page → Segment → Segment → List Command
next_commands page last s =
    if is_joined last s then line_of page s ∷ [] else
    move (end_of page last) (start_of page s) ∷ line_of page s ∷ []

abbrev pub rest_commands : Page → Segment → List Segment → List Command
rest_commands page last [] = []
rest_commands page last (s ∷ ss) = next_commands page last s ++ rest_commands page s ss

-- the commands of a run
abbrev pub run_commands : Page → Segment → List Segment → List Command
run_commands page s ss = MoveTo (start_of page s) ∷ line_of page s ∷ rest_commands page s ss

-- strokes are clipped to their window, unless it is the whole page
abbrev pub clip_of : Page → Window → Option Rectangle
clip_of page window = if is_whole_page page window then None else Some (rectangle_of page window)

-- the path of a run, which is filled if it is an area; the width is at least 24 grains
abbrev pub path_of : Page → Option Rule → Segment → List Segment → Path
path_of page rule s ss = record {
  pen = s.pen;
  colour = s.colour;
  width = max LEAST_WIDTH s.width;
  rule = rule;
  clip = clip_of page s.window;
  commands = run_commands page s ss;
}

abbrev pub run_paths : Page → Option Rule → List Segment → List Path
run_paths page rule [] = []
run_paths page rule (s ∷ ss) = path_of page rule s ss ∷ []

abbrev pub paths_of : Page → List Shape → List Path
paths_of page runs = flat_map (λ run. run_paths page run.rule run.strokes) runs

-- the name of the clip path of a rectangle: its four numbers
abbrev pub clip_name : Rectangle → List ℕ
clip_name r =
    codes "w" ++ signed_decimal r.x ++ codes "_" ++ signed_decimal r.y ++ codes "_" ++ signed_decimal r.width
    ++ codes "_" ++ signed_decimal r.height

abbrev pub clipped_text : Option Rectangle → List ℕ
clipped_text None = []
clipped_text (Some r) = codes " clip-path=\"url(#" ++ clip_name r ++ codes ")\""

-- how the strokes of a path are drawn: the pen as a class, the colour, and the width
abbrev pub pen_text : ℕ → Colour → ℕ → List ℕ
pen_text pen colour width =
    codes "<path class=\"pen" ++ decimal pen ++ codes "\" stroke=\"#" ++ colour_digits colour
    ++ codes "\" stroke-width=\"" ++ decimal width ++ codes "\""

-- an area is filled with the colour of its edges; `nonzero`, which is winding, is what a reader takes if nothing is said
abbrev pub fill_text : Option Rule → List ℕ → List ℕ
fill_text None digits = []
fill_text (Some OddCounts) digits = codes " fill=\"#" ++ digits ++ codes "\" fill-rule=\"evenodd\""
fill_text (Some Winding) digits = codes " fill=\"#" ++ digits ++ codes "\""

-- what comes before the commands, and after them
abbrev pub start_text : ℕ → Colour → ℕ → Option Rule → Option Rectangle → List ℕ
start_text pen colour width rule clip =
    pen_text pen colour width ++ fill_text rule (colour_digits colour) ++ clipped_text clip ++ codes " d=\""

abbrev pub end_text : List ℕ
end_text = codes "\"/>\n"

abbrev pub path_text : Path → List ℕ
path_text p = start_text p.pen p.colour p.width p.rule p.clip ++ flat_map command_text p.commands ++ end_text

-- the paths of the shapes that are drawn
abbrev pub paths : Page → PenSet → List Shape → List Path
paths page pens shapes = paths_of page (shape_runs pens shapes)

abbrev pub paths_text : Page → PenSet → List Shape → List ℕ
paths_text page pens shapes = flat_map path_text (paths page pens shapes)
