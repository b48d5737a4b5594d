-- The content of a page: the runs of its shapes, and the texts of its labels. Places are in grains (1/16 plotter unit)
-- from the lower left corner.
use Rattle.std.specs.Prelude.{ℕ, max, List, [], ◌∷◌, ◌++◌, if◌then◌else◌, Option, Some, None}
use Rattle.std.specs.List.{list_any}
use Rattle.labels.specs.Labels.{LabelShape, LineShape}
use Rattle.plot_page.specs.Segments.{Segment}
use Rattle.plot_page.specs.declared.colour.Colour.{Colour}
use Rattle.plot_page.specs.declared.page.Page.{Page}
use Rattle.plot_page.specs.declared.pens.PenSet.{PenSet}
use Rattle.plot_page.specs.declared.window.Window.{Window}
use Rattle.polygons.specs.declared.lines.Rule.{Rule}
use Rattle.areas.specs.Shapes.{Shape, shapes}
use Rattle.areas.specs.declared.area.Area.{Area}
use Rattle.stroke_runs.specs.Drawn.{is_joined}
use Rattle.stroke_runs.specs.Runs.{shape_runs}
use Rattle.stroke_runs.specs.Shown.{is_shown, is_whole_page}
use Rattle.stroke_runs.specs.declared.shown.TheConstants.{LEAST_WIDTH}
use Rattle.pdf.specs.Units.{unit_of}
use Rattle.pdf.specs.Operators.{Operator, Scale, Layer, EndLayer, Save, Restore, Rectangle, Clip, NoPaint, StrokeColour}
use Rattle.pdf.specs.Operators.{FillColour, LineWidth, LineEnds, LineJoins, MoveTo, LineTo, ClosePath, StrokePath, FillAndStroke}
use Rattle.pdf.specs.Operators.{BeginText, Invisible, TextMatrix, Font, ShowText, EndText, operators_text}
use Rattle.pdf.specs.Texts.{Piece, has_letters, has_text, matrix_of, pieces}

-- a stroke that begins where the last one ended
abbrev pub line_operators : Segment → List Operator
line_operators s = LineTo s.bx s.by ∷ []

-- a stroke that begins elsewhere
abbrev pub stroke_operators : Segment → List Operator
stroke_operators s = MoveTo s.ax s.ay ∷ LineTo s.bx s.by ∷ []

-- the end of a chain of strokes, each of which begins where the last one ended: one of edges that leads back to where its
-- first one began is closed
abbrev pub chain_end : Option Rule → Segment → Segment → List Operator
chain_end None first last = []
chain_end (Some rule) first last = if is_joined last first then ClosePath ∷ [] else []

-- the strokes of a run after one of a chain
abbrev pub rest_operators : Option Rule → Segment → Segment → List Segment → List Operator
rest_operators rule first last [] = chain_end rule first last
rest_operators rule first last (s ∷ ss) =
    if is_joined last s then line_operators s ++ rest_operators rule first s ss else
    chain_end rule first last ++ stroke_operators s ++ rest_operators rule s s ss

-- the window of a run, if it is not the whole page
abbrev pub clip_operators : Page → Window → List Operator
clip_operators page w = if is_whole_page page w then [] else Rectangle w ∷ Clip ∷ NoPaint ∷ []

-- what comes before the places of a run that begins with this stroke
abbrev pub start_operators : Page → Segment → List Operator
start_operators page s =
    (Layer s.pen ∷ Save ∷ []) ++ clip_operators page s.window
    ++ (StrokeColour s.colour ∷ LineWidth (max LEAST_WIDTH s.width) ∷ [])

-- an area is filled in the colour of its edges
abbrev pub fill_operators : Option Rule → Colour → List Operator
fill_operators None colour = []
fill_operators (Some rule) colour = FillColour colour ∷ []

-- strokes are drawn; an area is filled by its rule, and its edges are drawn
abbrev pub paint_operator : Option Rule → Operator
paint_operator None = StrokePath
paint_operator (Some rule) = FillAndStroke rule

-- what comes after the places
abbrev pub end_operators : Option Rule → List Operator
end_operators rule = paint_operator rule ∷ Restore ∷ EndLayer ∷ []

-- a run of strokes, or of the edges of an area
abbrev pub run_operators : Page → Option Rule → List Segment → List Operator
run_operators page rule [] = []
run_operators page rule (s ∷ ss) =
    start_operators page s ++ fill_operators rule s.colour ++ stroke_operators s ++ rest_operators rule s s ss
    ++ end_operators rule

-- runs one after another
abbrev pub runs_operators : Page → List Shape → List Operator
runs_operators page [] = []
runs_operators page (run ∷ others) = run_operators page run.rule run.strokes ++ runs_operators page others

-- pieces of a line
abbrev pub pieces_operators : List Piece → List Operator
pieces_operators [] = []
pieces_operators (p ∷ ps) = Font p.row ∷ ShowText p.bytes ∷ pieces_operators ps

-- a line, if it has a letter
abbrev pub text_operators : LineShape → List Operator
text_operators l =
    if has_letters l then TextMatrix (matrix_of l) l.start.x l.start.y ∷ pieces_operators (pieces l.text) else []

abbrev pub lines_operators : List LineShape → List Operator
lines_operators [] = []
lines_operators (l ∷ ls) = text_operators l ++ lines_operators ls

-- the labels that are shown
abbrev pub labels_operators : PenSet → List Segment → List LabelShape → List Operator
labels_operators pens strokes [] = []
labels_operators pens strokes (l ∷ ls) =
    (if is_shown pens strokes l then lines_operators l.lines else []) ++ labels_operators pens strokes ls

-- their texts, if there is one: a reader finds them, and they are not seen
abbrev pub texts_operators : PenSet → List Segment → List LabelShape → List Operator
texts_operators pens strokes labels =
    if list_any (has_text pens strokes) labels then
    (BeginText ∷ Invisible ∷ []) ++ labels_operators pens strokes labels ++ (EndText ∷ [])
    else []

-- the content of a page: of the shapes of these strokes and areas those that are drawn, and of these labels those that are
-- shown
abbrev pub content_operators : Page → PenSet → List Segment → List Area → List LabelShape → List Operator
content_operators page pens strokes areas labels =
    (Scale (unit_of page) ∷ LineEnds ∷ LineJoins ∷ []) ++ runs_operators page (shape_runs pens (shapes strokes areas))
    ++ texts_operators pens strokes labels

abbrev pub content_text : Page → PenSet → List Segment → List Area → List LabelShape → List ℕ
content_text page pens strokes areas labels = operators_text (content_operators page pens strokes areas labels)
