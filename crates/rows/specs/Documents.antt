-- PNGs of shapes and images: what reading one gives, and what writing one answers.
use Rattle.std.specs.Prelude.{◌≡◌, ℕ, ◌+◌, ◌*◌, ◌/◌, Bool, not, ◌||◌, if◌then◌else◌, List, [], Option, Some, Result, Ok, Err, ⊤}
use Rattle.plot_page.specs.Segments.{Segment}
use Rattle.plot_page.specs.declared.page.Page.{Page}
use Rattle.plot_page.specs.declared.dots.Dots.{Dots}
use Rattle.plot_page.specs.Resolutions.{columns_of, rows_of}
use Rattle.picture_job.specs.declared.png_job.PngJob.{PngJob}
use Rattle.picture_out.specs.declared.form.Form.TheVariants.{Ppm}
use Rattle.png.specs.Samples.{Picture}
use Rattle.png.specs.Readings.{read_png}
use Rattle.devices.specs.Sinks.{SinkState}
use Rattle.rows.specs.Pictures.{Reach, is_fine, is_smoothed, rows_bytes}
use Rattle.rows.specs.Contents.{ContentList}
use Rattle.rows.specs.ImagePictures.{shown_row_with}
use Rattle.rows.specs.Boxes.{boxes_from, finer_boxes}
use Rattle.rows.specs.declared.fault.PictureFault.{PictureFault}
use Rattle.rows.specs.declared.fault.PictureFault.TheVariants.{Memory, Unfinished}

-- pixels a metre, rounded, at a number of dots per inch: an inch is 0.0254 m
abbrev pub per_metre : ℕ → ℕ
per_metre dots = (dots * 10000 + 127) / 254

-- a picture of a page by the colours of each row: its size, its resolution, and the colours of its pixels, row by row
abbrev pub picture_with : Page → Dots → (ℕ → List ℕ) → Picture
picture_with page dots colours = record {
  columns = columns_of page dots;
  rows = rows_of page dots;
  per_metre = per_metre dots.resolution;
  pixels = rows_bytes colours 0 (rows_of page dots);
}

-- the colours of each row of pixels: the bytes of a PPM's row
abbrev pub colours_row : PngJob → Reach → ContentList → ℕ → List ℕ
colours_row job reaches contents row =
    shown_row_with contents.images job.smoothing.times Ppm reaches job.pens contents.shapes job.page job.dots row

-- the picture of a job, of shapes and images
abbrev pub picture_shown : PngJob → Reach → ContentList → Picture
picture_shown job reaches contents = picture_with job.page job.dots (colours_row job reaches contents)

-- the job's picture can be smoothed; if not, nothing is read
abbrev pub is_png_possible : PngJob → Bool
is_png_possible job = not (is_smoothed job.smoothing.times Ppm) || is_fine job.smoothing.times job.dots

-- if a sink held nothing, it holds a PNG that shows the picture
abbrev pub HoldsPng : Picture → Option (List ℕ) → Option (List ℕ) → Type 0
HoldsPng picture old new = old ≡ Some [] → (png : List ℕ) × (new ≡ Some png) × (read_png png ≡ Some picture)

-- how many pixels the boxes of the selected strokes have, together: no more tests are made. A smoothed picture may be painted
-- twice, first to find its colours
abbrev pub png_boxes : PngJob → List Segment → ℕ
png_boxes job strokes =
    if is_smoothed job.smoothing.times Ppm
    then 2 * finer_boxes job.smoothing.times job.pens strokes job.page job.dots 0
    else boxes_from job.pens strokes job.page job.dots 0

-- a picture was painted into a PNG, the sink failed, or there was no memory
abbrev pub HasPaintedPng : {U : Type 0} → Picture → SinkState → SinkState → Result U PictureFault → Type 0
HasPaintedPng picture sink sink' (Ok _) = HoldsPng picture sink.held sink'.held × (sink'.faults ≡ sink.faults)
HasPaintedPng picture sink sink' (Err Unfinished) = sink'.faults ≡ sink.faults + 1
HasPaintedPng picture sink sink' (Err Memory) = ⊤
HasPaintedPng picture sink sink' (Err _) = ⊥
