-- The text of runs.
use Rattle.std.specs.Prelude.{ℕ, max, List, [], ◌∷◌, ◌++◌, if◌then◌else◌, Option, Some, None, codes, decimal}
use Rattle.plot_page.specs.Segments.{Segment}
use Rattle.plot_page.specs.declared.colour.Colour.{Colour}
use Rattle.plot_page.specs.declared.page.Page.{Page}
use Rattle.plot_page.specs.declared.pens.PenSet.{PenSet}
use Rattle.plot_page.specs.declared.window.Window.{Window}
use Rattle.polygons.specs.declared.lines.Rule.{Rule}
use Rattle.areas.specs.Shapes.{Shape, shapes}
use Rattle.areas.specs.declared.area.Area.{Area}
use Rattle.stroke_runs.specs.Drawn.{is_joined}
use Rattle.stroke_runs.specs.Runs.{shape_runs}
use Rattle.stroke_runs.specs.Shown.{is_whole_page}
use Rattle.stroke_runs.specs.declared.shown.TheConstants.{LEAST_WIDTH}
use Rattle.pdf.specs.Operators.{colour_text, fill_colour_text, paint_text, place_text, rectangle_text, scale_text, width_text}
use Rattle.pdf.specs.Units.{unit_of}

-- a grain is so many units of the page; line ends and joins are round
abbrev pub head_text : Page → List ℕ
head_text page = scale_text (unit_of page) ++ codes "1 J\n1 j\n"

-- a stroke that begins where the last one ended
abbrev pub line_text : Segment → List ℕ
line_text s = place_text s.bx s.by ++ codes " l\n"

-- a stroke that begins elsewhere
abbrev pub stroke_text : Segment → List ℕ
stroke_text s = place_text s.ax s.ay ++ codes " m\n" ++ line_text s

-- the end of a chain that leads back to this first stroke
abbrev pub closing_text : Segment → Segment → List ℕ
closing_text first last = if is_joined last first then codes "h\n" else []

-- the end of a chain: one of edges that leads back is closed
abbrev pub chain_end_text : Option Rule → Segment → Segment → List ℕ
chain_end_text None first last = []
chain_end_text (Some rule) first last = closing_text first last

-- the strokes of a run after one of a chain
abbrev pub rest_text : Option Rule → Segment → Segment → List Segment → List ℕ
rest_text rule first last [] = chain_end_text rule first last
rest_text rule first last (s ∷ ss) =
    if is_joined last s then line_text s ++ rest_text rule first s ss else
    chain_end_text rule first last ++ stroke_text s ++ rest_text rule s s ss

-- what lies in a window is drawn, and nothing else
abbrev pub window_text : Window → List ℕ
window_text w = rectangle_text w ++ codes "W\nn\n"

-- the window of a run, if it is not the whole page
abbrev pub clip_text : Page → Window → List ℕ
clip_text page w = if is_whole_page page w then [] else window_text w

-- the pen of a run as its layer, and the state of before is kept
abbrev pub layer_text : ℕ → List ℕ
layer_text pen = codes "/OC /P" ++ decimal pen ++ codes " BDC\nq\n"

-- what comes before the places of a run that begins with this stroke; the width is at least 24 grains
abbrev pub start_text : Page → Segment → List ℕ
start_text page s =
    layer_text s.pen ++ clip_text page s.window ++ colour_text s.colour ++ width_text (max LEAST_WIDTH s.width)

-- the colour of what is inside the edges of an area
abbrev pub fill_text : Option Rule → Colour → List ℕ
fill_text None colour = []
fill_text (Some rule) colour = fill_colour_text colour

-- the first stroke of a run, and what comes before it
abbrev pub begin_text : Page → Option Rule → Segment → List ℕ
begin_text page rule s = start_text page s ++ fill_text rule s.colour ++ stroke_text s

-- strokes are drawn; an area is filled, and its edges are drawn
abbrev pub painted_text : Option Rule → List ℕ
painted_text None = codes "S\n"
painted_text (Some rule) = paint_text rule

-- what comes after the places
abbrev pub end_text : Option Rule → List ℕ
end_text rule = painted_text rule ++ codes "Q\nEMC\n"

-- a run of strokes, or of the edges of an area
abbrev pub run_text : Page → Option Rule → List Segment → List ℕ
run_text page rule [] = []
run_text page rule (s ∷ ss) = begin_text page rule s ++ rest_text rule s s ss ++ end_text rule

-- runs one after another
abbrev pub runs_text : Page → List Shape → List ℕ
runs_text page [] = []
runs_text page (run ∷ others) = run_text page run.rule run.strokes ++ runs_text page others

-- the drawn shapes of a page
abbrev pub shapes_text : Page → PenSet → List Segment → List Area → List ℕ
shapes_text page pens strokes areas = head_text page ++ runs_text page (shape_runs pens (shapes strokes areas))
