-- Pictures of all kinds, in a form, as a PNG or as a vector document: a plot is drawn for one, and then it is written.
use Rattle.std.specs.Prelude.{◌≡◌, ◌⊎◌, ℕ, Bool, true, false, Result, Ok, Err, IfOk}
use Rattle.plot_page.specs.declared.page.Page.{Page}
use Rattle.plot_page.specs.declared.pens.PenSet.{PenSet}
use Rattle.directions.specs.declared.turn.Turn.{Turn}
use Rattle.directions.specs.declared.turn.Turn.TheVariants.{None}
use Rattle.picture_job.specs.LabelChoices.{has_text}
use Rattle.picture_job.specs.declared.page_choice.PageChoice.{PageChoice}
use Rattle.picture_job.specs.declared.picture.Picture.{Picture}
use Rattle.picture_job.specs.declared.picture.Picture.TheVariants.{Rows, Png, Vector}
use Rattle.devices.specs.Sinks.{SinkState}
use Rattle.devices.specs.Sources.{SourceState}
use Rattle.rows.specs.Boxes.{strip_boxes}
use Rattle.conversion.specs.PageJobs.{is_picture_possible, on_page, png_on_page, png_rows_on, rows_on, times_on}
use Rattle.rows.specs.Documents.{png_boxes}
use Rattle.conversion.specs.Conversions.{is_write}
use Rattle.conversion.specs.Drawings.{HasDrawn}
use Rattle.rows.specs.Pictures.{Reach}
use Rattle.conversion.specs.Rules.{Rules}
use Rattle.conversion.specs.Sheets.{WritesPng, WritesShapes, contents_on, strokes_on}
use Rattle.conversion.specs.Turned.{IsTurned, can_be_turned}
use Rattle.conversion.specs.Vectors.{WritesVector}
use Rattle.rows.specs.Watching.{IsTold}
use Rattle.conversion.specs.declared.fault.Fault.{Fault}
use Rattle.conversion.specs.declared.fault.Fault.TheVariants.{Resolution, Unturned}
use Rattle.conversion.specs.declared.naming.Naming.{Naming}
use Rattle.conversion.specs.declared.outcome.Outcome.{Outcome}
use Rattle.conversion.specs.declared.place.Drawing.{Drawing}

-- the page and the pens of a picture
abbrev pub page_of : Picture → Page
page_of (Rows job rows) = job.page
page_of (Png job) = job.page
page_of (Vector job) = job.page

abbrev pub pens_of : Picture → PenSet
pens_of (Rows job rows) = job.pens
pens_of (Png job) = job.pens
pens_of (Vector job) = job.pens

-- a vector document has the labels of the plot, unless they are strokes only
abbrev pub has_labels : Picture → Bool
has_labels (Vector job) = has_text job.labels
has_labels _ = false

-- the picture of a sheet of a drawing, or of all that is drawn for 0, which is possible, was written by what a gauge reaches,
-- or was not, for the reason that is answered; a vector document is named so
abbrev pub WritesSheet : PageChoice → Picture → Naming → Reach → Drawing → ℕ → SinkState → SinkState → Result Outcome Fault →
    Type 0
WritesSheet choice (Rows job rows) naming reaches drawing sheet sink sink' answer =
    WritesShapes choice rows job drawing (contents_on drawing sheet) reaches sink sink' answer
WritesSheet choice (Png job) naming reaches drawing sheet sink sink' answer =
    WritesPng choice job drawing (contents_on drawing sheet) reaches sink sink' answer
WritesSheet choice (Vector job) naming reaches drawing sheet sink sink' answer =
    WritesVector job naming drawing sheet sink sink' answer

-- how many tests that takes at most
abbrev pub most_tests : PageChoice → Picture → Drawing → ℕ → ℕ
most_tests choice (Rows job rows) drawing sheet =
    strip_boxes (times_on choice drawing.page job rows.smoothing) rows.most_rows (on_page choice drawing.page job)
    (strokes_on drawing sheet)
most_tests choice (Png job) drawing sheet = png_boxes (png_on_page choice drawing.page job) (strokes_on drawing sheet)
most_tests choice (Vector job) drawing sheet = 0

-- a watcher is told of the rows that are written of a picture in pixels, on the page that it shows, and of nothing else
abbrev pub IsToldOfPicture : {W : Type 0} → (W → ℕ → ℕ → W → Type 0) → PageChoice → Picture → Page → W → W →
    Result Outcome Fault → Type 0
IsToldOfPicture hears choice (Rows job rows) page before after answer =
    IsTold is_write hears (rows_on choice page job rows.most_rows) before after answer
IsToldOfPicture hears choice (Png job) page before after answer =
    IsTold is_write hears (png_rows_on choice page job) before after answer
IsToldOfPicture hears choice (Vector job) page before after answer = after ≡ before

-- a plot was drawn for a picture, with its labels if the picture has them
pub record HasDrawnFor (rules : Rules) (choice : PageChoice) (picture : Picture) (before after : SourceState)
    (answer : Result Drawing Fault) : Type 0 where
  pub draws : HasDrawn rules choice (pens_of picture) (page_of picture) before after answer
  pub labelled : IfOk answer (λ drawing. drawing.lines.labelled ≡ has_labels picture)

-- what was drawn was then turned with its page, with the strokes of the picture's pens; or one of these would not be a stroke after
-- the turn; or the plot was not drawn
abbrev pub HasTurned : Turn → Rules → PageChoice → Picture → SourceState → SourceState → Result Drawing Fault → Type 0
HasTurned turn rules choice picture before after (Ok turned) =
    (drawing : Drawing) × HasDrawnFor rules choice picture before after (Ok drawing)
    × IsTurned (pens_of picture) turn drawing turned
HasTurned turn rules choice picture before after (Err Unturned) =
    (drawing : Drawing) × HasDrawnFor rules choice picture before after (Ok drawing)
    × (can_be_turned (pens_of picture) turn drawing ≡ false)
HasTurned turn rules choice picture before after (Err fault) = HasDrawnFor rules choice picture before after (Err fault)

-- a plot was drawn for a picture, and then turned, if it is to be turned
abbrev pub HasDrawnTurned : Turn → Rules → PageChoice → Picture → SourceState → SourceState → Result Drawing Fault → Type 0
HasDrawnTurned None rules choice picture before after answer = HasDrawnFor rules choice picture before after answer
HasDrawnTurned turn rules choice picture before after answer = HasTurned turn rules choice picture before after answer

-- a plot was drawn for a picture, and turned so, and then the picture of all that is drawn was written; or it was not drawn or
-- not turned, for the reason that is answered, and a watcher is told of nothing. If the picture is not possible, nothing was read
pub record HasConvertedTo {W : Type 0} (turn : Turn) (rules : Rules) (choice : PageChoice) (picture : Picture) (naming : Naming)
    (reaches : Reach) (before after : SourceState) (sink sink' : SinkState) (hears : W → ℕ → ℕ → W → Type 0)
    (watcher watcher' : W) (answer : Result Outcome Fault) : Type 0 where
  pub unread : is_picture_possible choice picture ≡ false → (answer ≡ Err Resolution) × (after ≡ before) × (watcher' ≡ watcher)
  pub converts : is_picture_possible choice picture ≡ true →
      ((drawing : Drawing) × HasDrawnTurned turn rules choice picture before after (Ok drawing)
      × WritesSheet choice picture naming reaches drawing 0 sink sink' answer
      × IsToldOfPicture hears choice picture drawing.page watcher watcher' answer)
      ⊎ ((fault : Fault) × HasDrawnTurned turn rules choice picture before after (Err fault) × (answer ≡ Err fault)
      × (watcher' ≡ watcher))
