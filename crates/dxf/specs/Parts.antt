-- The entities of a sheet: those of its strokes and areas, and the texts of its labels instead of their strokes.
use Rattle.std.specs.Prelude.{ℕ, List, [], ◌∷◌, ◌++◌, length, Option, Some, None, if◌then◌else◌}
use Rattle.areas.specs.declared.area.Area.{Area}
use Rattle.labels.specs.Labels.{LabelShape}
use Rattle.plot_page.specs.Segments.{Segment}
use Rattle.plot_page.specs.declared.pens.PenSet.{PenSet}
use Rattle.stroke_runs.specs.Drawn.{drawn}
use Rattle.stroke_runs.specs.Sheets.{between, shapes_between}
use Rattle.svg.specs.Parts.{cut_labels}
use Rattle.dxf.specs.Entities.{shapes_text}
use Rattle.dxf.specs.Letters.{is_written, lines_text}
use Rattle.dxf.specs.declared.layers.Layers.{Layers}

abbrev pub first_of : List Segment → Option Segment
first_of [] = None
first_of (s ∷ ss) = Some s

-- the first stroke of a label that is drawn
abbrev pub label_stroke : PenSet → List Segment → LabelShape → Option Segment
label_stroke pens strokes l = first_of (drawn pens (between strokes l.first l.after))

-- a label, by the first of its strokes that is drawn: its letters, or its strokes if it has no letter
abbrev pub label_by : Layers → PenSet → List Segment → List Area → LabelShape → Option Segment → List ℕ
label_by layers pens strokes areas l None = []
label_by layers pens strokes areas l (Some s) =
    if is_written l then lines_text layers s l.lines else
    shapes_text layers pens (shapes_between strokes areas l.first l.after)

abbrev pub label_text : Layers → PenSet → List Segment → List Area → LabelShape → List ℕ
label_text layers pens strokes areas l = label_by layers pens strokes areas l (label_stroke pens strokes l)

-- the strokes after the first `at`, some of which are the edges of these areas, with these labels in order
abbrev pub parts_after : Layers → PenSet → List Segment → List Area → ℕ → List LabelShape → List ℕ
parts_after layers pens strokes areas at [] = shapes_text layers pens (shapes_between strokes areas at (length strokes))
parts_after layers pens strokes areas at (l ∷ ls) =
    shapes_text layers pens (shapes_between strokes areas at l.first)
    ++ (label_text layers pens strokes areas l ++ parts_after layers pens strokes areas l.after ls)

-- strokes, and the areas of which they are edges, with their labels, each stroke once
abbrev pub parts_text : Layers → PenSet → List Segment → List Area → List LabelShape → List ℕ
parts_text layers pens strokes areas labels = parts_after layers pens strokes areas 0 (cut_labels 0 labels)
