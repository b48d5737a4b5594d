-- The picture of shapes of a drawing: of all of them, or of those of one sheet.
use Rattle.std.specs.Prelude.{◌≡◌, ◌&&◌, Bool, ℕ, List, length, None, Result, Ok, Err, Some, false, true, if◌then◌else◌}
use Rattle.std.specs.List.{All}
use Rattle.areas.specs.Laws.{AreRound}
use Rattle.areas.specs.Shapes.{NoneGoesOn, ShapeList, edges_of, stroke_count}
use Rattle.areas.specs.declared.area.Area.{Area}
use Rattle.full_plot.specs.Drawings.{AreAlike, areas_of_sheet, sheet_strokes}
use Rattle.full_plot.specs.Labels.{labels_of_sheet}
use Rattle.labels.specs.Labels.{AreBeside, LabelShape}
use Rattle.plot_page.specs.Segments.{Segment}
use Rattle.plot_page.specs.declared.dots.Dots.{Dots}
use Rattle.plot_page.specs.declared.page.Page.{Page}
use Rattle.plot_page.specs.declared.pens.PenSet.{PenSet}
use Rattle.page_fit.specs.Shapes.{is_off_page, shapes_census}
use Rattle.page_images.specs.PageImages.{ImageShape}
use Rattle.image_places.specs.Extents.{are_images_off_page}
use Rattle.picture_job.specs.declared.job.Job.{Job}
use Rattle.picture_job.specs.declared.png_job.PngJob.{PngJob}
use Rattle.picture_job.specs.declared.page_choice.PageChoice.{PageChoice}
use Rattle.picture_job.specs.declared.row_choice.RowChoice.{RowChoice}
use Rattle.devices.specs.Sinks.{SinkState}
use Rattle.conversion.specs.Images.{images_of_sheet}
use Rattle.conversion.specs.Rules.{ends_of}
use Rattle.rows.specs.Documents.{HasPaintedPng, picture_shown}
use Rattle.conversion.specs.PageJobs.{has_too_many_pixels, on_page, png_on_page, png_rows_on, rows_on, times_on}
use Rattle.rows.specs.Contents.{ContentList}
use Rattle.rows.specs.Pictures.{Reach}
use Rattle.rows.specs.Progress.{HasPainted}
use Rattle.rows.specs.declared.fault.PictureFault.{PictureFault}
use Rattle.conversion.specs.Faults.{of_picture}
use Rattle.conversion.specs.declared.fault.Fault.{Fault}
use Rattle.conversion.specs.declared.fault.Fault.TheVariants.{Pixels}
use Rattle.conversion.specs.declared.outcome.Outcome.{Outcome}
use Rattle.conversion.specs.declared.place.Drawing.{Drawing}

-- the strokes of a sheet of a drawing, which counts from 1; all that is drawn for 0
abbrev pub strokes_on : Drawing → ℕ → List Segment
strokes_on drawing sheet = sheet_strokes drawing.lines.strokes.items drawing.lines.ends.items sheet

-- the areas among these strokes
abbrev pub areas_on : Drawing → ℕ → List Area
areas_on drawing sheet =
    let lines = drawing.lines in
    areas_of_sheet lines.areas.items lines.ends.items (length lines.strokes.items) sheet

-- its shapes
abbrev pub shapes_on : Drawing → ℕ → ShapeList
shapes_on drawing sheet = record { strokes = strokes_on drawing sheet; areas = areas_on drawing sheet }

-- the images among these strokes
abbrev pub images_on : Drawing → ℕ → List ImageShape
images_on drawing sheet =
    let lines = drawing.lines in
    images_of_sheet lines.images.items lines.image_ends.items lines.ends.items (length lines.strokes.items) sheet

-- all that is on it
abbrev pub contents_on : Drawing → ℕ → ContentList
contents_on drawing sheet = record { shapes = shapes_on drawing sheet; images = images_on drawing sheet }

-- its labels, by these strokes
abbrev pub labels_on : Drawing → ℕ → List LabelShape
labels_on drawing sheet =
    let lines = drawing.lines in
    labels_of_sheet lines.labels.items lines.ends.items (length lines.strokes.items) sheet

-- shapes and labels, among whose strokes sheets end there: no area goes on where a sheet ends, or where a label begins or ends, and
-- the edges of each are alike, and lead round closed polygons
pub record AreWhole (shapes : ShapeList) (ends : List ℕ) (labels : List LabelShape) : Type 0 where
  pub ends_beside : All (λ end. NoneGoesOn end shapes.areas) ends
  pub labels_beside : AreBeside shapes.areas labels
  pub round : All (λ area. AreRound (edges_of shapes.strokes area)) shapes.areas
  pub alike : All (λ area. AreAlike (edges_of shapes.strokes area)) shapes.areas

-- those of a sheet of a drawing
abbrev pub AreWholeOn : Drawing → ℕ → Type 0
AreWholeOn drawing sheet =
    AreWhole (shapes_on drawing sheet) (ends_of sheet drawing.lines.ends.items) (labels_on drawing sheet)

-- all images, and all that the selected pens draw, lie off the page
abbrev pub is_all_off_page : PenSet → Page → ContentList → Bool
is_all_off_page pens page contents = is_off_page pens page contents.shapes && are_images_off_page page contents.images

-- an outcome tells of these shapes and images of a drawing; of the shapes, those of the selected pens are seen
pub record TellsOf (drawing : Drawing) (pens : PenSet) (contents : ContentList) (outcome : Outcome) : Type 0 where
  pub strokes_count : outcome.done.strokes ≡ stroke_count contents.shapes
  pub areas_count : outcome.done.areas ≡ length contents.shapes.areas
  pub images_count : outcome.done.images ≡ length contents.images
  pub notes : outcome.done.notes ≡ drawing.lines.notes
  pub placement : outcome.placement ≡ drawing.placement
  pub sheets : outcome.sheets ≡ drawing.lines.sheets
  pub off_page : outcome.is_off_page ≡ is_all_off_page pens drawing.page contents
  pub census : outcome.census ≡ (if drawing.counts then Some (shapes_census pens drawing.page contents.shapes) else None)

-- a picture of this page at this resolution is refused if it has too many pixels, and nothing is written; if not, painting it
-- comes to this answer
pub record IsJudgedByPixels (page : Page) (dots : Dots) (sink sink' : SinkState) (answer : Result Outcome Fault)
    (paints : Type 0) : Type 0 where
  pub refused : has_too_many_pixels page dots ≡ true → (answer ≡ Err Pixels) × (sink' ≡ sink)
  pub painted : has_too_many_pixels page dots ≡ false → paints

-- what each answer says of a picture of these shapes on the page where the drawing lies, which is possible, and has not too
-- many pixels: it was written whole, or as many rows as are asked for, or the sink failed, or the job cannot be done there
abbrev pub PaintsShapes : PageChoice → RowChoice → Job → Drawing → ContentList → Reach → SinkState → SinkState →
    Result Outcome Fault → Type 0
PaintsShapes choice rows job drawing contents reaches sink sink' (Ok outcome) =
    HasPainted (times_on choice drawing.page job rows.smoothing) rows.most_rows (on_page choice drawing.page job) reaches
    contents sink sink' (Ok outcome.done.bytes)
    × (outcome.done.rows ≡ rows_on choice drawing.page job rows.most_rows)
    × TellsOf drawing job.pens contents outcome
PaintsShapes choice rows job drawing contents reaches sink sink' (Err fault) =
    (cause : PictureFault) × (fault ≡ of_picture cause)
    × HasPainted (times_on choice drawing.page job rows.smoothing) rows.most_rows (on_page choice drawing.page job) reaches
    contents sink sink' (Err cause)

-- the same, also of a picture that may have too many
abbrev pub WritesShapes : PageChoice → RowChoice → Job → Drawing → ContentList → Reach → SinkState → SinkState →
    Result Outcome Fault → Type 0
WritesShapes choice rows job drawing contents reaches sink sink' answer =
    IsJudgedByPixels drawing.page (on_page choice drawing.page job).dots sink sink' answer
    (PaintsShapes choice rows job drawing contents reaches sink sink' answer)

-- the same of a PNG, whose bytes are not counted
abbrev pub PaintsPng : PageChoice → PngJob → Drawing → ContentList → Reach → SinkState → SinkState → Result Outcome Fault →
    Type 0
PaintsPng choice job drawing contents reaches sink sink' (Ok outcome) =
    HasPaintedPng (picture_shown (png_on_page choice drawing.page job) reaches contents) sink sink' (Ok outcome)
    × (outcome.done.rows ≡ png_rows_on choice drawing.page job)
    × (outcome.done.bytes ≡ 0)
    × TellsOf drawing job.pens contents outcome
PaintsPng choice job drawing contents reaches sink sink' (Err fault) =
    (cause : PictureFault) × (fault ≡ of_picture cause)
    × HasPaintedPng {U = Outcome} (picture_shown (png_on_page choice drawing.page job) reaches contents) sink sink' (Err cause)

abbrev pub WritesPng : PageChoice → PngJob → Drawing → ContentList → Reach → SinkState → SinkState → Result Outcome Fault →
    Type 0
WritesPng choice job drawing contents reaches sink sink' answer =
    IsJudgedByPixels drawing.page (png_on_page choice drawing.page job).dots sink sink' answer
    (PaintsPng choice job drawing contents reaches sink sink' answer)
