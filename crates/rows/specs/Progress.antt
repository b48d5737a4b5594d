-- How far the writing of rows and of a picture came, as contracts of private functions say it.
use Rattle.std.specs.Prelude.{◌≡◌, ℕ, ◌+◌, ◌-◌, ◌*◌, ◌<◌, ◌≤◌, map, List, [], ◌∷◌, ◌++◌, length, take, get_or, nat_eq}
use Rattle.std.specs.Prelude.{if◌then◌else◌, min, Option, Result, Ok, Err, Some, None, ⊤}
use Rattle.std.specs.List.{range_with_len}
use Rattle.std.specs.Io.KnownBytes.{Appends}
use Rattle.plot_page.specs.declared.dots.TheConstants.{MOST_PIXELS_A_SIDE}
use Rattle.smoothing.specs.Smoothings.{smoothed}
use Rattle.picture_out.specs.declared.form.Form.{Form}
use Rattle.picture_out.specs.declared.inks.Ink.{Ink}
use Rattle.picture_out.specs.Forms.{foot_bytes, row_bytes}
use Rattle.png.specs.declared.header.Depth.{Depth}
use Rattle.png.specs.declared.header.Layout.{Layout}
use Rattle.png.specs.declared.header.Layout.TheVariants.{Rgb}
use Rattle.plot_page.specs.declared.page.Page.{Page}
use Rattle.png.specs.Headers.{HasColours}
use Rattle.plot_page.specs.declared.dots.Dots.{Dots}
use Rattle.devices.specs.Sinks.{SinkState}
use Rattle.areas.specs.Shapes.{ShapeList}
use Rattle.page_images.specs.PageImages.{ImageShape}
use Rattle.plot_page.specs.Resolutions.{rows_of}
use Rattle.stroke_raster.specs.Painting.{Painting}
use Rattle.picture_job.specs.declared.job.Job.{Job}
use Rattle.rows.specs.Pictures.{Reach, colours_at, end_of, foot_if, head_of, job_fault, picture_of, row_of_list, rows_bytes}
use Rattle.rows.specs.Contents.{ContentList}
use Rattle.rows.specs.ImageCells.{with_images}
use Rattle.rows.specs.ImagePictures.{contents_row, image_colours, image_row}
use Rattle.rows.specs.Boxes.{boxes_between}
use Rattle.rows.specs.PixelRows.{layout_bytes}
use Rattle.rows.specs.declared.fault.PictureFault.{PictureFault}
use Rattle.rows.specs.declared.fault.PictureFault.TheVariants.{Memory, Paint, Write}
use Rattle.rows.specs.Stops.{IsStoppedAt}
use Rattle.rows.specs.Watching.{WasTold, WasToldInPart}
use Rattle.rows.specs.declared.writing.Broken.{Broken}

-- the bytes of a list of rows, the first of which has this number
abbrev pub rows_text : Form → List Ink → ℕ → List (List ℕ) → List ℕ
rows_text form inks row [] = []
rows_text form inks row (cells ∷ rows) = row_bytes form row inks cells ++ rows_text form inks (row + 1) rows

-- each of these rows, the first of which has the number `at`, has as many bytes
abbrev pub AreEven : Form → List Ink → ℕ → List (List ℕ) → ℕ → Type 0
AreEven form inks at rows size =
    (k : ℕ) → k < length rows → length (row_bytes form (at + k) inks (get_or rows k [])) ≡ size

-- where the writing of rows from the row `at` on stopped, after `done` bytes of this run: in the k-th of them
pub record StopsIn (form : Form) (inks : List Ink) (first at : ℕ) (rows : List (List ℕ)) (done : ℕ) (stop : Broken)
    (k : ℕ) : Type 0 where
  pub inside : k < length rows
  pub row : stop.row ≡ at + k
  pub from : done + length (rows_text form inks at (take k rows)) ≤ stop.bytes
  pub to : stop.bytes < done + length (rows_text form inks at (take k rows))
      + length (row_bytes form (at + k) inks (get_or rows k []))
  pub whole : stop.whole ≡ (if nat_eq (at + k) first then 0 else (done + length (rows_text form inks at (take k rows))))

-- rows were written, after `done` bytes of this run
pub record AreWritten (text : List ℕ) (done : ℕ) (sink sink' : SinkState) (bytes : ℕ) : Type 0 where
  pub written : Appends sink.held sink'.held text
  pub count : bytes ≡ done + length text
  pub sound : sink'.faults ≡ sink.faults

-- the sink failed in the k-th of some rows
pub record CellsAreCutShort (form : Form) (inks : List Ink) (first at : ℕ) (rows : List (List ℕ)) (done : ℕ)
    (sink sink' : SinkState) (stop : Broken) : Type 0 where
  pub written : Appends sink.held sink'.held (take (stop.bytes - done) (rows_text form inks at rows))
  pub failed : sink'.faults ≡ sink.faults + 1
  pub k : ℕ
  pub stopped : StopsIn form inks first at rows done stop k

-- all the rows of a list were written and nothing failed, or the sink failed once
abbrev pub WritesCells : Form → List Ink → ℕ → ℕ → List (List ℕ) → ℕ → SinkState → SinkState → Result ℕ Broken → Type 0
WritesCells form inks first at rows done sink sink' (Ok n) = AreWritten (rows_text form inks at rows) done sink sink' n
WritesCells form inks first at rows done sink sink' (Err stop) =
    CellsAreCutShort form inks first at rows done sink sink' stop

-- the sink failed in one of the rows from `at` up to `end`, after `done` bytes of this run
pub record AreCutShort (row : ℕ → List ℕ) (first at end done : ℕ) (sink sink' : SinkState) (stop : Broken) : Type 0 where
  pub written : Appends sink.held sink'.held (take (stop.bytes - done) (rows_bytes row at (end - at)))
  pub failed : sink'.faults ≡ sink.faults + 1
  pub since : at ≤ stop.row
  pub until : stop.row < end
  pub from : done + length (rows_bytes row at (stop.row - at)) ≤ stop.bytes
  pub to : stop.bytes < done + length (rows_bytes row at (stop.row - at)) + length (row stop.row)
  pub whole : stop.whole
      ≡ (if nat_eq stop.row first then 0 else (done + length (rows_bytes row at (stop.row - at))))

-- the rows from `at` up to `end` were written and nothing failed, or the sink failed once
abbrev pub WritesRows : (ℕ → List ℕ) → ℕ → ℕ → ℕ → ℕ → SinkState → SinkState → Result ℕ Broken → Type 0
WritesRows row first at end done sink sink' (Ok n) = AreWritten (rows_bytes row at (end - at)) done sink sink' n
WritesRows row first at end done sink sink' (Err stop) = AreCutShort row first at end done sink sink' stop

-- a watcher was told of all of so many rows, or the sink failed in one of them
abbrev pub IsToldOfRows : {W : Type 0} → (W → ℕ → ℕ → W → Type 0) → ℕ → W → W → Result ℕ Broken → Type 0
IsToldOfRows hears rows before after (Ok _) = WasTold hears rows before rows after
IsToldOfRows hears rows before after (Err _) = WasToldInPart hears rows before after

-- a picture was written
pub record IsWhole (text : List ℕ) (sink sink' : SinkState) (bytes : ℕ) : Type 0 where
  pub written : Appends sink.held sink'.held text
  pub count : bytes ≡ length text
  pub sound : sink'.faults ≡ sink.faults

-- the sink failed in a picture
pub record PictureStops (head : List ℕ) (row : ℕ → List ℕ) (foot : List ℕ) (rows first : ℕ) (sink sink' : SinkState)
    (stop : Broken) : Type 0 where
  pub written : Appends sink.held sink'.held (take stop.bytes (picture_of head row foot rows first))
  pub within : stop.bytes < length (picture_of head row foot rows first)
  pub failed : sink'.faults ≡ sink.faults + 1
  pub stopped : IsStoppedAt head row rows first stop.bytes stop.row stop.whole

-- all of a picture was written and nothing failed, or the sink failed once
abbrev pub WritesPicture : List ℕ → (ℕ → List ℕ) → List ℕ → ℕ → ℕ → SinkState → SinkState → Result ℕ Broken → Type 0
WritesPicture head row foot rows first sink sink' (Ok n) = IsWhole (picture_of head row foot rows first) sink sink' n
WritesPicture head row foot rows first sink sink' (Err stop) = PictureStops head row foot rows first sink sink' stop

-- the shapes of what is painted
abbrev pub painting_shapes : Painting → ShapeList
painting_shapes p = record { strokes = p.strokes; areas = p.areas }

-- the bytes of each row of what is painted, in a form
abbrev pub painting_row : Form → Painting → Reach → ℕ → List ℕ
painting_row form p reaches row = row_of_list form reaches p.pens (painting_shapes p) p.page p.dots row

-- how many tests the painting of the rows that are left makes at most
abbrev pub tests_left : Painting → ℕ
tests_left p = boxes_between p.pens p.strokes p.page p.dots p.next p.end

-- the job can be done on its page, and a strip of at most so many rows of a picture of its contents was written, or the sink
-- failed once
abbrev pub WritesJob : ℕ → Option ℕ → Job → Reach → ContentList → SinkState → SinkState → Result ℕ Broken → Type 0
WritesJob n most job reaches contents sink sink' answer =
    let rows = rows_of job.page job.dots in
    let end = end_of most job.first_row rows in
    (job_fault job ≡ None)
    × WritesPicture (head_of job.form job.page job.dots) (contents_row n job reaches contents)
    (foot_if (foot_bytes job.form) rows end) end job.first_row sink sink' answer

-- a job's contents were painted and at most so many rows written, the sink failed once, or the job cannot be done on its page
abbrev pub HasPainted : ℕ → Option ℕ → Job → Reach → ContentList → SinkState → SinkState → Result ℕ PictureFault → Type 0
HasPainted n most job reaches contents sink sink' (Ok bytes) = WritesJob n most job reaches contents sink sink' (Ok bytes)
HasPainted n most job reaches contents sink sink' (Err (Write row whole bytes)) =
    WritesJob n most job reaches contents sink sink' (Err (record { row = row; whole = whole; bytes = bytes }))
HasPainted n most job reaches contents sink sink' (Err (Paint fault)) = job_fault job ≡ Some fault
HasPainted n most job reaches contents sink sink' (Err Memory) = ⊤
HasPainted n most job reaches contents sink sink' (Err _) = ⊥

-- what is painted as cells, and the form in which its rows are written
pub record CellPainting : Type 0 where
  pub painting : Painting
  pub form : Form

-- what is painted as cells, the images over it, and the form in which its rows are written
pub record ImagePainting : Type 0 where
  pub painting : Painting
  pub images : List ImageShape
  pub form : Form

-- the bytes of each row
abbrev pub image_painting_row : ImagePainting → Reach → ℕ → List ℕ
image_painting_row b reaches row =
    let p = b.painting in
    image_row b.form reaches p.pens (painting_shapes p) b.images p.page p.dots row

-- what is painted as cells, how many bits a number takes, and the number of each stroke
pub record NumberPainting : Type 0 where
  pub painting : Painting
  pub depth : Depth
  pub numbers : List ℕ

-- the finer picture that is painted, how many times finer it is, how the pixels are laid out, and how many columns and rows
-- of them there are; the numbers of the next row and of the row after the last one that is made, and how many rows a band has
-- at most
pub record SmoothPainting : Type 0 where
  pub painting : Painting
  pub times : ℕ
  pub layout : Layout
  pub columns : ℕ
  pub rows : ℕ
  pub next : ℕ
  pub end : ℕ
  pub height : ℕ

-- the pixels of each row of what is smoothed, and its bytes
abbrev pub row_pixels : SmoothPainting → Reach → ℕ → List (List ℕ)
row_pixels b reaches row =
    let p = b.painting in
    map (smoothed b.times (colours_at reaches p.pens (painting_shapes p) p.page p.dots) row) (range_with_len 0 b.columns)

abbrev pub smoothed_text : SmoothPainting → Reach → ℕ → List ℕ
smoothed_text b reaches row = layout_bytes b.layout (row_pixels b reaches row)

-- the same with the images over the finer picture
pub record SmoothImagePainting : Type 0 where
  pub smooth : SmoothPainting
  pub images : List ImageShape

-- the rows of a band, of which the first has this number, with images
abbrev pub band_with_images : List ImageShape → Page → Dots → ℕ → List (List ℕ) → List (List ℕ)
band_with_images images page dots first rows =
    map (λ r. with_images images page dots (first + r) (get_or rows r [])) (range_with_len 0 (length rows))

-- the pixels of each row, and its bytes
abbrev pub image_row_pixels : SmoothImagePainting → Reach → ℕ → List (List ℕ)
image_row_pixels b reaches row =
    let s = b.smooth in
    let p = s.painting in
    map (smoothed s.times (image_colours reaches p.pens (painting_shapes p) b.images p.page p.dots) row) (range_with_len 0 s.columns)

abbrev pub smoothed_image_text : SmoothImagePainting → Reach → ℕ → List ℕ
smoothed_image_text b reaches row = layout_bytes Rgb (image_row_pixels b reaches row)

-- each row is made of finer rows, of which the next are painted next
pub record IsSmoothing (p : Painting) (times rows at height : ℕ) : Type 0 where
  pub least : 1 ≤ times
  pub most : times ≤ 8
  pub some : 1 ≤ height
  pub few : height ≤ 4096
  pub tall : rows ≤ MOST_PIXELS_A_SIDE
  pub within : at ≤ rows
  pub band : p.band_rows ≡ times * height
  pub finer : (row : ℕ) → row < rows → times * row < p.end
  pub enough : min (times * rows) (rows_of p.page p.dots) ≤ p.end
  pub on_page : p.end ≤ rows_of p.page p.dots
  pub next : at < rows → p.next ≡ times * at

-- a picture can be smoothed so many times, in this layout
pub record CanSmooth (times : ℕ) (layout : Layout) (dots : Dots) : Type 0 where
  pub least : 1 ≤ times
  pub most : times ≤ 8
  pub fine : times * dots.resolution ≤ 1200
  pub colours : HasColours layout
