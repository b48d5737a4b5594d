-- How many tests the painting of a picture makes at most.
use Rattle.std.specs.Prelude.{ℕ, ◌-◌, ◌*◌, List, Option, min, nat_lt, if◌then◌else◌}
use Rattle.plot_page.specs.Segments.{Segment}
use Rattle.plot_page.specs.declared.page.Page.{Page}
use Rattle.plot_page.specs.declared.dots.Dots.{Dots}
use Rattle.plot_page.specs.declared.pens.PenSet.{PenSet}
use Rattle.plot_page.specs.Resolutions.{columns_of, rows_of}
use Rattle.stroke_raster.specs.Boxes.{boxes, selected, in_box}
use Rattle.picture_job.specs.declared.job.Job.{Job}
use Rattle.rows.specs.Pictures.{end_of, finer, is_smoothed}

-- how many pixels the boxes of the selected strokes have, together, in the rows from one on, up to another
abbrev pub boxes_between : PenSet → List Segment → Page → Dots → ℕ → ℕ → ℕ
boxes_between pens strokes page dots first end =
    boxes (λ s. in_box s page dots) (selected pens strokes) first (end - first) (columns_of page dots)

-- the same in the page's rows from one on
abbrev pub boxes_from : PenSet → List Segment → Page → Dots → ℕ → ℕ
boxes_from pens strokes page dots first = boxes_between pens strokes page dots first (rows_of page dots)

-- the same in the finer picture that a picture is smoothed of
abbrev pub finer_boxes : ℕ → PenSet → List Segment → Page → Dots → ℕ → ℕ
finer_boxes n pens strokes page dots first =
    let fine = finer n dots in
    boxes_from pens strokes page fine (min (n * first) (rows_of page fine))

-- the finer row before which the finer picture of the rows before `end` stops: no further than it must, or at its last row
abbrev pub finer_end : ℕ → Page → Dots → ℕ → ℕ
finer_end n page dots end = if nat_lt end (rows_of page dots) then n * end else rows_of page (finer n dots)

-- the same in the finer picture of the rows from one on, up to another
abbrev pub finer_between : ℕ → PenSet → List Segment → Page → Dots → ℕ → ℕ → ℕ
finer_between n pens strokes page dots first end =
    let fine = finer n dots in
    boxes_between pens strokes page fine (min (n * first) (rows_of page fine)) (finer_end n page dots end)

-- how many pixels the boxes of strokes have, together, in the rows of a job: no more tests are made
abbrev pub strokes_boxes : ℕ → Job → List Segment → ℕ
strokes_boxes n job strokes =
    if is_smoothed n job.form
    then finer_boxes n job.pens strokes job.page job.dots job.first_row
    else boxes_from job.pens strokes job.page job.dots job.first_row

-- the same in those of its rows that are written, at most so many
abbrev pub strip_boxes : ℕ → Option ℕ → Job → List Segment → ℕ
strip_boxes n most job strokes =
    let end = end_of most job.first_row (rows_of job.page job.dots) in
    if is_smoothed n job.form
    then finer_between n job.pens strokes job.page job.dots job.first_row end
    else boxes_between job.pens strokes job.page job.dots job.first_row end
