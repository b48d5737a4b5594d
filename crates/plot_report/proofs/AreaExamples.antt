-- Worked examples: the lines of some reports on areas.
use Rattle.std.proofs.Common.{◌≡◌, ℕ, ℤ, pos, List, [], ◌∷◌, ◌++◌, refl, codes, lit≤, map}
use Rattle.std.specs.Fmt.{digits}
use Rattle.plot_page.specs.declared.page.Page.{Page}
use Rattle.plot_page.specs.Segments.{Segment}
use Rattle.polygons.specs.declared.lines.Rule.TheVariants.{OddCounts}
use Rattle.areas.specs.Shapes.{ShapeList, plain}
use Rattle.areas.specs.declared.area.Area.{Area}
use Rattle.hpgl_plot.specs.declared.note.NoteKind.TheVariants.{Skipped}
use Rattle.plot_report.specs.Report.{full_report_of, last_pen, report_page, shape_lines}

abbrev Agree : {X : Type 0} → List (X × X) → Type 0
Agree rows = map (λ it. it.0) rows ≡ map (λ it. it.1) rows

abbrev page : Page
page = record { width = 64; height = 64; left = 0; below = 0; width_in = (lit≤ tt, lit≤ tt); height_in = (lit≤ tt, lit≤ tt); left_in = lit≤ tt; below_in = lit≤ tt }

-- a stroke of a pen, of a width, between two places
abbrev stroke : ℕ → ℕ → ℤ → ℤ → ℤ → ℤ → Segment
stroke pen width ax ay bx by = record { pen = pen; colour = record { red = 0; green = 0; blue = 0 }; width = width; window = record { x0 = pos 0; y0 = pos 0; x1 = pos 1024; y1 = pos 1024 }; ax = ax; ay = ay; bx = bx; by = by }

-- the edges of a square from 16 to 48 plotter units
abbrev square : ℕ → List Segment
square pen =
    stroke pen 0 (pos 256) (pos 256) (pos 768) (pos 256) ∷ stroke pen 0 (pos 768) (pos 256) (pos 768) (pos 768)
    ∷ stroke pen 0 (pos 768) (pos 768) (pos 256) (pos 768) ∷ stroke pen 0 (pos 256) (pos 768) (pos 256) (pos 256) ∷ []

-- a dot in its corner
abbrev dot : Segment
dot = stroke 1 224 (pos 256) (pos 256) (pos 256) (pos 256)

-- a line with pen 1
abbrev across : Segment
across = stroke 1 224 (pos 0) (pos 448) (pos 1024) (pos 448)

-- an area whose edges are the strokes after the first ones, up to this number of them
abbrev area : ℕ → ℕ → Area
area first end = record { first = first; end = end; rule = OddCounts }

abbrev list : List Segment → List Area → ShapeList
list strokes areas = record { strokes = strokes; areas = areas }

-- the report on strokes and areas on one sheet
abbrev report : ShapeList → List ℕ
report shapes = full_report_of (report_page page) 1 shapes [] []

-- the pen of an area is that of its last edge; one without edges has none
pens : Agree ((last_pen (square 7), 7) ∷ (last_pen (dot ∷ stroke 3 0 (pos 0) (pos 0) (pos 1) (pos 1) ∷ []), 3) ∷ (last_pen [], 0) ∷ [])
pens = refl

reports : Agree (
    (report (list (square 1) (area 0 4 ∷ [])), codes "page 64 64 0 0\nsheets 1\nstrokes 0\nareas 1\npen 1 areas 1 edges 4 box 256 256 768 768\n")  -- a square
    -- a dot and a square of one pen
    ∷ (report (list (dot ∷ square 1) (area 1 5 ∷ [])), codes "page 64 64 0 0\nsheets 1\nstrokes 1\nareas 1\npen 1 strokes 1 widest 224 box 256 256 256 256\npen 1 areas 1 edges 4 box 256 256 768 768\n")
    -- two areas of pen 2, and a stroke of pen 1 between them
    ∷ (report (list (square 2 ++ across ∷ stroke 2 0 (pos 0) (pos 8) (pos 16) (pos 1600) ∷ []) (area 0 4 ∷ area 5 6 ∷ [])), codes "page 64 64 0 0\nsheets 1\nstrokes 1\nareas 2\npen 1 strokes 1 widest 224 box 0 448 1024 448\npen 2 areas 2 edges 5 box 0 8 768 1600\n")
    ∷ (report (plain (square 1)), codes "page 64 64 0 0\nsheets 1\nstrokes 4\npen 1 strokes 4 widest 0 box 256 256 768 768\n")  -- the strokes of a square
    -- the sheets follow the page, and the notes the pens
    ∷ (full_report_of (report_page page) 3 (plain (across ∷ [])) [] (record { at = 0; code = codes "PM"; kind = Skipped } ∷ []), codes "page 64 64 0 0\nsheets 3\nstrokes 1\npen 1 strokes 1 widest 224 box 0 448 1024 448\nnote 0 skipped PM\n")
    ∷ (full_report_of (report_page page) 0 (plain []) [] [], codes "page 64 64 0 0\nsheets 0\nstrokes 0\n")  -- no sheet
    ∷ [])
unfolding digits shape_lines
reports = refl
