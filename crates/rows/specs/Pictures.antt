-- The picture of strokes: its head if it begins with row 0, its rows, its foot.
use Rattle.std.specs.Prelude.{ℕ, List, Option, zero, suc, ◌+◌, ◌-◌, ◌*◌, [], ◌++◌, nat_eq, nat_le, get_or, max, min}
use Rattle.std.specs.Prelude.{if◌then◌else◌, Bool, map, nat_lt, true, false, not, ◌&&◌, ◌||◌, Some, None}
use Rattle.std.specs.List.{flat_map, range_with_len}
use Rattle.std.proofs.Math.Nat.{le-max_left, max-le, min-le_right}
use Rattle.plot_page.specs.declared.page.Page.{Page}
use Rattle.plot_page.specs.Segments.{Segment}
use Rattle.plot_page.specs.declared.dots.Dots.{Dots}
use Rattle.plot_page.specs.declared.pens.PenSet.{PenSet}
use Rattle.plot_page.specs.Resolutions.{columns_of, rows_of}
use Rattle.areas.specs.Shapes.{ShapeList}
use Rattle.stroke_raster.specs.Shown.{row_shown}
use Rattle.stroke_raster.specs.ShownShapes.{row_of_shapes}
use Rattle.smoothing.specs.Smoothings.{Colours, smoothed}
use Rattle.picture_out.specs.declared.form.Form.{Form}
use Rattle.picture_out.specs.declared.inks.Ink.{Ink}
use Rattle.picture_out.specs.declared.form.Form.TheVariants.{Pcl, Ppm}
use Rattle.picture_out.specs.Inks.{cell_colour}
use Rattle.picture_out.specs.Forms.{head_bytes, row_bytes, foot_bytes, takes_resolution}
use Rattle.stroke_raster.specs.Covers.{covers}
use Rattle.stroke_raster.specs.BandHeights.{is_band_height}
use Rattle.stroke_raster.specs.declared.painter.PaintFault.{PaintFault}
use Rattle.stroke_raster.specs.declared.painter.PaintFault.TheVariants.{Band, Row}
use Rattle.picture_job.specs.declared.job.Job.{Job}

-- this many rows, from one on
abbrev pub rows_bytes : (ℕ → List ℕ) → ℕ → ℕ → List ℕ
rows_bytes row r zero = []
rows_bytes row r (suc n) = row r ++ rows_bytes row (r + 1) n

-- only a picture from row 0 on has the head
abbrev pub head_if : List ℕ → ℕ → List ℕ
head_if head first = if nat_eq first 0 then head else []

abbrev pub picture_of : List ℕ → (ℕ → List ℕ) → List ℕ → ℕ → ℕ → List ℕ
picture_of head row foot rows first = head_if head first ++ (rows_bytes row first (rows - first) ++ foot)

-- the row after the last one that is written of so many rows: at most this many are, from `first` on, or all that are left
abbrev pub end_of : Option ℕ → ℕ → ℕ → ℕ
end_of None first rows = rows
end_of (Some most) first rows = min (first + most) rows

-- only rows up to the last one have the foot
abbrev pub foot_if : List ℕ → ℕ → ℕ → List ℕ
foot_if foot rows end = if nat_le rows end then foot else []

-- a strip of a picture: its rows from one on, up to another
abbrev pub strip_of : List ℕ → (ℕ → List ℕ) → List ℕ → ℕ → ℕ → ℕ → List ℕ
strip_of head row foot rows first end = head_if head first ++ (rows_bytes row first (end - first) ++ foot_if foot rows end)

-- what a gauge reaches: whether a stroke does a pixel of a page
abbrev pub Reach : Type 0
Reach = Segment → Page → Dots → ℕ → ℕ → Bool

-- the pen and the colour of a stroke
abbrev pub ink_of : Segment → Ink
ink_of s = record { pen = s.pen; red = s.colour.red; green = s.colour.green; blue = s.colour.blue }

-- those of each stroke of a list, in order
abbrev pub inks_of : List Segment → List Ink
inks_of strokes = map ink_of strokes

-- the bytes of each row of the picture of strokes, by what a gauge reaches
abbrev pub row_of : Form → Reach → PenSet → List Segment → Page → Dots → ℕ → List ℕ
row_of form reaches pens strokes page dots row =
    row_bytes form row (inks_of strokes) (row_shown (λ s. reaches s page dots) pens strokes (columns_of page dots) row)

-- a resolution n times as fine, from 1 to 1200
abbrev pub finer : ℕ → Dots → Dots
finer n dots = record {
  resolution = max 1 (min (n * dots.resolution) 1200);
  at_least = le-max_left 1 (min (n * dots.resolution) 1200);
  at_most = max-le (le-max_left 1 1200) (min-le_right (n * dots.resolution) 1200);
}

-- the same of the picture of shapes: an area has the ink of its last edge
abbrev pub row_of_list : Form → Reach → PenSet → ShapeList → Page → Dots → ℕ → List ℕ
row_of_list form reaches pens shapes page dots row =
    row_bytes form row (inks_of shapes.strokes) (row_of_shapes reaches pens shapes.strokes shapes.areas page dots row)

-- the colour of each pixel of the picture of shapes; past its edges is paper
abbrev pub colours_at : Reach → PenSet → ShapeList → Page → Dots → Colours
colours_at reaches pens shapes page dots row column =
    let cells = row_of_shapes reaches pens shapes.strokes shapes.areas page dots row in
    cell_colour (inks_of shapes.strokes) (if nat_lt row (rows_of page dots) then get_or cells column 0 else 0)

-- the pixels of each row of the picture, each the mean of n by n pixels of a finer picture of the same shapes
abbrev pub smoothed_pixels : ℕ → Reach → PenSet → ShapeList → Page → Dots → ℕ → List (List ℕ)
smoothed_pixels n reaches pens shapes page dots row =
    map (smoothed n (colours_at reaches pens shapes page (finer n dots)) row) (range_with_len 0 (columns_of page dots))

-- only a PPM has shades
abbrev pub has_shades : Form → Bool
has_shades Ppm = true
has_shades _ = false

-- whether the picture is smoothed
abbrev pub is_smoothed : ℕ → Form → Bool
is_smoothed n form = nat_lt 1 n && has_shades form

-- the bytes of each row of the picture of shapes, smoothed n times; 1 is no smoothing
abbrev pub shown_row : ℕ → Form → Reach → PenSet → ShapeList → Page → Dots → ℕ → List ℕ
shown_row n form reaches pens shapes page dots row =
    if is_smoothed n form
    then flat_map (λ pixel. pixel) (smoothed_pixels n reaches pens shapes page dots row)
    else row_of_list form reaches pens shapes page dots row

abbrev pub head_of : Form → Page → Dots → List ℕ
head_of form page dots = head_bytes form dots.resolution (columns_of page dots) (rows_of page dots)

-- the gauge that reaches what a stroke covers
abbrev pub exact : Reach
exact s page dots row column = covers s page dots row column

-- the rows of the picture of a job and shapes, smoothed n times, by what a gauge reaches
abbrev pub shapes_row : ℕ → Job → Reach → ShapeList → ℕ → List ℕ
shapes_row n job reaches shapes row = shown_row n job.form reaches job.pens shapes job.page job.dots row

-- the picture of a job and shapes: the head if it begins with row 0, the rows from its first row on, the foot
abbrev pub shapes_picture : ℕ → Job → Reach → ShapeList → List ℕ
shapes_picture n job reaches shapes =
    picture_of (head_of job.form job.page job.dots) (shapes_row n job reaches shapes) (foot_bytes job.form)
    (rows_of job.page job.dots) job.first_row

-- the strip of it that is written: at most so many rows
abbrev pub shapes_strip : ℕ → Option ℕ → Job → Reach → ShapeList → List ℕ
shapes_strip n most job reaches shapes =
    let rows = rows_of job.page job.dots in
    strip_of (head_of job.form job.page job.dots) (shapes_row n job reaches shapes) (foot_bytes job.form) rows job.first_row
    (end_of most job.first_row rows)

-- the job's form has its resolution; if not, nothing is read
abbrev pub has_resolution : Job → Bool
has_resolution job = takes_resolution job.form job.dots.resolution

-- a picture in this form may have any resolution
abbrev pub has_any_resolution : Form → Bool
has_any_resolution Pcl = false
has_any_resolution _ = true

-- the finer picture that a picture is smoothed of is not too fine
abbrev pub is_fine : ℕ → Dots → Bool
is_fine n dots = nat_le (n * dots.resolution) 1200

-- the job's form has its resolution, and its picture can be smoothed; if not, nothing is read
abbrev pub is_possible : ℕ → Job → Bool
is_possible n job = (not (is_smoothed n job.form) || is_fine n job.dots) && has_resolution job

-- why a job cannot be done on its page, whatever the plot: its band height, and then its first row
abbrev pub job_fault : Job → Option PaintFault
job_fault job =
    if not (is_band_height job.band) then Some Band else
    if nat_lt (rows_of job.page job.dots) job.first_row then Some Row else
    None
