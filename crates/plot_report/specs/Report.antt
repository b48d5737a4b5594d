-- The report on a plot: lines of text on the page, the strokes and the areas of each pen, the images, and the notes.
use Rattle.std.specs.Prelude.{ℕ, max, ℤ, pos, List, [], ◌∷◌, ◌++◌, length, map, filter, flat_map, is_none, is_some, nat_eq, ◌==◌, slice_index, codes, if◌then◌else◌}
use Rattle.std.specs.Prelude.{decimal}
use Rattle.std.specs.List.{join_with_byte, range_with_len}
use Rattle.std.specs.Fmt.{signed_decimal}
use Rattle.std.specs.Int.{int_max, int_min}
use Rattle.plot_page.specs.declared.page.Page.{Page}
use Rattle.plot_page.specs.Segments.{Segment}
use Rattle.areas.specs.Shapes.{Shape, ShapeList, shapes}
use Rattle.page_images.specs.Frames.{row_count}
use Rattle.page_images.specs.PageImages.{ImageShape}
use Rattle.hpgl_text.specs.Bytes.{escape}
use Rattle.plot_report.specs.declared.report_page.ReportPage.{ReportPage}
use Rattle.plot_report.specs.declared.summary.StrokeSummary.{StrokeSummary}
use Rattle.hpgl_plot.specs.declared.note.Note.{Note}
use Rattle.hpgl_plot.specs.declared.note.NoteKind.{NoteKind}
use Rattle.hpgl_plot.specs.declared.note.NoteKind.TheVariants.{Skipped, Bad, Stray, Axis, Open}

-- what separates two words
abbrev pub space : ℕ
space = 32

-- a line: its words, separated by single spaces, and LF
abbrev pub line : List (List ℕ) → List ℕ
line words = join_with_byte space words ++ codes "\n"

-- a page as it is given
abbrev pub report_page : Page → ReportPage
report_page page =
    record { width = page.width; height = page.height; left = pos page.left; below = pos page.below }

-- the page: its width, its height, and how far its lower left corner is left of (0, 0) and below it, in plotter units
abbrev pub page_line : ReportPage → List ℕ
page_line page =
    line (codes "page" ∷ decimal page.width ∷ decimal page.height ∷ signed_decimal page.left
    ∷ signed_decimal page.below ∷ [])

-- how many strokes there are
abbrev pub strokes_line : List Segment → List ℕ
strokes_line strokes = line (codes "strokes" ∷ decimal (length strokes) ∷ [])

-- the strokes of one pen
abbrev pub strokes_of : ℕ → List Segment → List Segment
strokes_of pen strokes = filter (λ s. nat_eq s.pen pen) strokes

-- the greatest of these numbers, or 0 if there are none
abbrev pub greatest : List ℕ → ℕ
greatest [] = 0
greatest (n ∷ ns) = max n (greatest ns)

-- the least of these whole numbers, or 0 if there are none
abbrev pub least_place : List ℤ → ℤ
least_place [] = pos 0
least_place (z ∷ []) = z
least_place (z ∷ zs) = int_min z (least_place zs)

-- the greatest of these whole numbers, or 0 if there are none
abbrev pub greatest_place : List ℤ → ℤ
greatest_place [] = pos 0
greatest_place (z ∷ []) = z
greatest_place (z ∷ zs) = int_max z (greatest_place zs)

-- the x of both ends of each stroke, and the y
abbrev pub end_xs : List Segment → List ℤ
end_xs strokes = flat_map (λ s. s.ax ∷ s.bx ∷ []) strokes

abbrev pub end_ys : List Segment → List ℤ
end_ys strokes = flat_map (λ s. s.ay ∷ s.by ∷ []) strokes

-- how many strokes these are, the greatest width, and the least and the greatest x and y of their ends, in grains; no
-- window cuts them
abbrev pub summary_of : List Segment → StrokeSummary
summary_of strokes = record {
  strokes = length strokes;
  widest = greatest (map (λ s. s.width) strokes);
  least_x = least_place (end_xs strokes);
  least_y = least_place (end_ys strokes);
  greatest_x = greatest_place (end_xs strokes);
  greatest_y = greatest_place (end_ys strokes);
}

-- the corners of the box of these numbers
abbrev pub corner_words : StrokeSummary → List (List ℕ)
corner_words s =
    signed_decimal s.least_x ∷ signed_decimal s.least_y ∷ signed_decimal s.greatest_x ∷ signed_decimal s.greatest_y ∷ []

-- the line of a pen with these numbers
abbrev pub summary_line : ℕ → StrokeSummary → List ℕ
summary_line pen s =
    line (codes "pen" ∷ decimal pen ∷ codes "strokes" ∷ decimal s.strokes ∷ codes "widest" ∷ decimal s.widest
    ∷ codes "box" ∷ corner_words s)

-- the line of a pen with these strokes; a pen without strokes has none
abbrev pub pen_line : ℕ → List Segment → List ℕ
pen_line pen [] = []
pen_line pen (s ∷ ss) = summary_line pen (summary_of (s ∷ ss))

-- the lines of the pens, 1 to 255
unfoldable pub pen_lines : List Segment → List ℕ
pen_lines strokes = flat_map (λ pen. pen_line pen (strokes_of pen strokes)) (range_with_len 1 255)

-- the letters of an instruction, or those that an escape has in notes
abbrev pub letters : List ℕ → List ℕ
letters code = if slice_index code 0 == escape then codes "ESC" else code

-- what is noted: on the instruction with these two letters, on an escape, or on a stray byte
abbrev pub kind_words : NoteKind → List ℕ → List (List ℕ)
kind_words Skipped code = codes "skipped" ∷ letters code ∷ []
kind_words Bad code = codes "bad" ∷ letters code ∷ []
kind_words (Stray byte) code = codes "stray" ∷ decimal byte ∷ []
kind_words Axis code = codes "axis" ∷ letters code ∷ []
kind_words Open code = codes "open" ∷ letters code ∷ []

-- a note: its place, and what is noted there
abbrev pub note_line : Note → List ℕ
note_line note = line (codes "note" ∷ decimal note.at ∷ kind_words note.kind note.code)

-- the whole report
abbrev pub report_of : ReportPage → List Segment → List Note → List ℕ
report_of page strokes notes = page_line page ++ strokes_line strokes ++ pen_lines strokes ++ flat_map note_line notes

-- in the profile full: how many sheets there are
abbrev pub sheets_line : ℕ → List ℕ
sheets_line sheets = line (codes "sheets" ∷ decimal sheets ∷ [])

-- the strokes that are no edges of areas, and the areas
abbrev pub strokes_among : List Shape → List Segment
strokes_among shapes = flat_map (λ shape. shape.strokes) (filter (λ shape. is_none shape.rule) shapes)

abbrev pub areas_among : List Shape → List Shape
areas_among shapes = filter (λ shape. is_some shape.rule) shapes

-- the edges of areas
abbrev pub all_edges : List Shape → List Segment
all_edges areas = flat_map (λ area. area.strokes) areas

-- how many areas there are; without areas there is no such line
abbrev pub areas_line : ℕ → List ℕ
areas_line areas = if nat_eq areas 0 then [] else line (codes "areas" ∷ decimal areas ∷ [])

-- how many images there are; without images there is no such line
abbrev pub images_line : ℕ → List ℕ
images_line images = if nat_eq images 0 then [] else line (codes "images" ∷ decimal images ∷ [])

-- an image: how many dots a row has, how many rows there are, how many dots there are to the inch, and the box of its frame
abbrev pub image_line : ImageShape → List ℕ
image_line i =
    line (codes "image" ∷ decimal i.image.width ∷ decimal (row_count i.image.numbers) ∷ decimal i.image.settings.resolution
    ∷ codes "box" ∷ corner_words (summary_of (i.frame ∷ [])))

-- the pen of the last of these strokes, or 0 if there are none
abbrev pub last_pen : List Segment → ℕ
last_pen [] = 0
last_pen (s ∷ []) = s.pen
last_pen (s ∷ ss) = last_pen ss

-- the shapes of one pen: all edges of an area have its pen
abbrev pub shapes_of : ℕ → List Shape → List Shape
shapes_of pen shapes = filter (λ shape. nat_eq (last_pen shape.strokes) pen) shapes

-- the line of a pen with so many areas, whose edges have these numbers
abbrev pub edges_line : ℕ → ℕ → StrokeSummary → List ℕ
edges_line pen areas s =
    line (codes "pen" ∷ decimal pen ∷ codes "areas" ∷ decimal areas ∷ codes "edges" ∷ decimal s.strokes
    ∷ codes "box" ∷ corner_words s)

-- the line of a pen with these areas; a pen without areas has none
abbrev pub area_line : ℕ → List Shape → List ℕ
area_line pen [] = []
area_line pen (a ∷ more) = edges_line pen (length (a ∷ more)) (summary_of (all_edges (a ∷ more)))

-- the lines of a pen with these shapes: of its strokes, and of its areas
abbrev pub pen_shape_lines : ℕ → List Shape → List ℕ
pen_shape_lines pen shapes = pen_line pen (strokes_among shapes) ++ area_line pen (areas_among shapes)

-- how many strokes, areas and images there are, and the lines of the pens, 1 to 255
unfoldable pub shape_lines : ℕ → List Shape → List ℕ
shape_lines images shapes =
    strokes_line (strokes_among shapes) ++ areas_line (length (areas_among shapes)) ++ images_line images
    ++ flat_map (λ pen. pen_shape_lines pen (shapes_of pen shapes)) (range_with_len 1 255)

-- the whole report in the profile full
abbrev pub full_report_of : ReportPage → ℕ → ShapeList → List ImageShape → List Note → List ℕ
full_report_of page sheets list images notes =
    page_line page ++ sheets_line sheets ++ shape_lines (length images) (shapes list.strokes list.areas)
    ++ flat_map image_line images ++ flat_map note_line notes
