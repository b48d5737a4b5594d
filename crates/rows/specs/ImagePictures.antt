-- The picture of shapes and images: without images it is that of the shapes.
use Rattle.std.specs.Prelude.{ℕ, List, [], ◌∷◌, get_or, map, nat_lt, Option, if◌then◌else◌}
use Rattle.std.specs.List.{flat_map, range_with_len}
use Rattle.plot_page.specs.declared.dots.Dots.{Dots}
use Rattle.plot_page.specs.declared.page.Page.{Page}
use Rattle.plot_page.specs.declared.pens.PenSet.{PenSet}
use Rattle.plot_page.specs.Resolutions.{columns_of, rows_of}
use Rattle.areas.specs.Shapes.{ShapeList}
use Rattle.stroke_raster.specs.ShownShapes.{row_of_shapes}
use Rattle.page_images.specs.PageImages.{ImageShape}
use Rattle.smoothing.specs.Smoothings.{Colours, smoothed}
use Rattle.picture_out.specs.declared.form.Form.{Form}
use Rattle.picture_out.specs.Forms.{foot_bytes, row_bytes}
use Rattle.picture_out.specs.Inks.{cell_colour}
use Rattle.picture_job.specs.declared.job.Job.{Job}
use Rattle.rows.specs.Contents.{ContentList}
use Rattle.rows.specs.ImageCells.{inked, inks_with, with_images}
use Rattle.rows.specs.Pictures.{Reach, end_of, finer, head_of, is_smoothed, picture_of, shown_row, strip_of}

-- what the pixels of a row have, by what a gauge reaches
abbrev pub cells_with : Reach → PenSet → ShapeList → List ImageShape → Page → Dots → ℕ → List ℕ
cells_with reaches pens shapes images page dots row =
    with_images images page dots row (row_of_shapes reaches pens shapes.strokes shapes.areas page dots row)

-- the bytes of a row in a form
abbrev pub image_row : Form → Reach → PenSet → ShapeList → List ImageShape → Page → Dots → ℕ → List ℕ
image_row form reaches pens shapes images page dots row =
    row_bytes form row (inks_with shapes.strokes) (inked form (cells_with reaches pens shapes images page dots row))

-- the colour of each pixel; past the edges is paper
abbrev pub image_colours : Reach → PenSet → ShapeList → List ImageShape → Page → Dots → Colours
image_colours reaches pens shapes images page dots row column =
    let cells = cells_with reaches pens shapes images page dots row in
    cell_colour (inks_with shapes.strokes) (if nat_lt row (rows_of page dots) then get_or cells column 0 else 0)

-- the pixels of a row, each the mean of n by n pixels of a finer picture of the same shapes and images
abbrev pub image_pixels : ℕ → Reach → PenSet → ShapeList → List ImageShape → Page → Dots → ℕ → List (List ℕ)
image_pixels n reaches pens shapes images page dots row =
    map (smoothed n (image_colours reaches pens shapes images page (finer n dots)) row) (range_with_len 0 (columns_of page dots))

-- the bytes of a row, smoothed n times; 1 is no smoothing
abbrev pub smoothed_image_row : ℕ → Form → Reach → PenSet → ShapeList → List ImageShape → Page → Dots → ℕ → List ℕ
smoothed_image_row n form reaches pens shapes images page dots row =
    if is_smoothed n form
    then flat_map (λ pixel. pixel) (image_pixels n reaches pens shapes images page dots row)
    else image_row form reaches pens shapes images page dots row

-- the same, and without images that of the picture of shapes
abbrev pub shown_row_with : List ImageShape → ℕ → Form → Reach → PenSet → ShapeList → Page → Dots → ℕ → List ℕ
shown_row_with [] n form reaches pens shapes page dots row = shown_row n form reaches pens shapes page dots row
shown_row_with (image ∷ images) n form reaches pens shapes page dots row =
    smoothed_image_row n form reaches pens shapes (image ∷ images) page dots row

-- the rows of the picture of a job, smoothed n times, by what a gauge reaches
abbrev pub contents_row : ℕ → Job → Reach → ContentList → ℕ → List ℕ
contents_row n job reaches contents row =
    shown_row_with contents.images n job.form reaches job.pens contents.shapes job.page job.dots row

-- the picture of a job: the head if it begins with row 0, the rows from its first row on, the foot
abbrev pub contents_picture : ℕ → Job → Reach → ContentList → List ℕ
contents_picture n job reaches contents =
    picture_of (head_of job.form job.page job.dots) (contents_row n job reaches contents) (foot_bytes job.form)
    (rows_of job.page job.dots) job.first_row

-- the strip of it that is written: at most so many rows
abbrev pub contents_strip : ℕ → Option ℕ → Job → Reach → ContentList → List ℕ
contents_strip n most job reaches contents =
    let rows = rows_of job.page job.dots in
    strip_of (head_of job.form job.page job.dots) (contents_row n job reaches contents) (foot_bytes job.form) rows job.first_row
    (end_of most job.first_row rows)
