-- The rules by which plots are drawn, and the picture of a plot by them.
use Rattle.std.specs.Prelude.{◌≡◌, ℕ, ◌<◌, ◌≤◌, List, [], length, nat_eq, if◌then◌else◌, false, Option, Some, None, ⊤}
use Rattle.hpgl_text.specs.Cut.{cut}
use Rattle.full_text.specs.Cut.{full_cut}
use Rattle.hpgl_text.specs.declared.program.TheConstants.{LONGEST_PLOT}
use Rattle.hpgl_text.specs.declared.profile.Profile.TheVariants as profile
use Rattle.hpgl_plot.specs.declared.fault.PlotFault.{PlotFault}
use Rattle.hpgl_plot.specs.Notes as core
use Rattle.hpgl_plot.specs.declared.note.Note.{Note}
use Rattle.hpgl_plot.specs.declared.note.NoteKind.{NoteKind}
use Rattle.carousel.specs.Carousels.{empty}
use Rattle.carousel.specs.declared.carousel.Carousel.{Carousel}
use Rattle.character_sets.specs.declared.encoding.Encoding.{Encoding}
use Rattle.hpgl_plot.specs.Strokes.{strokes_with, refusal_with}
use Rattle.areas.specs.Shapes.{ShapeList}
use Rattle.areas.specs.declared.area.Area.{Area}
use Rattle.full_plot.specs.Drawings.{areas_of, areas_of_sheet, outcome_with, refusal_in, strokes_in, ends_in, sheet_strokes}
use Rattle.full_plot.specs.Drawings.{image_ends_in, images_in, sheet_count}
use Rattle.full_plot.specs.Noted.{told_of}
use Rattle.conversion.specs.Images.{images_of_sheet}
use Rattle.full_plot.specs.Labels.{labels_of, labels_of_sheet}
use Rattle.full_notes.specs.Notes as full
use Rattle.page_images.specs.PageImages.{ImageShape}
use Rattle.labels.specs.Labels.{LabelShape}
use Rattle.page_fit.specs.Around.{Sides}
use Rattle.plot_size.specs.Sizes.{longest_side, sides_asked}
use Rattle.plot_page.specs.Segments.{Segment}
use Rattle.plot_page.specs.declared.page.Page.{Page}
use Rattle.picture_job.specs.declared.job.Job.{Job}
use Rattle.picture_job.specs.declared.reading.Reading.{Reading}
use Rattle.picture_job.specs.declared.reading.Reading.TheVariants.{Core, Full}
use Rattle.rows.specs.Contents.{ContentList}
use Rattle.rows.specs.Pictures.{Reach, has_resolution}
use Rattle.rows.specs.ImagePictures.{contents_picture, contents_strip}
use Rattle.conversion.specs.Pictures.{plot_strokes, plot_refusal, refused_fault}
use Rattle.conversion.specs.declared.setup.Setup.{Setup}
use Rattle.conversion.specs.declared.fault.Fault.{Fault}
use Rattle.conversion.specs.declared.fault.Fault.TheVariants.{TooLong, Memory, Write, Read, Resolution}

-- the strokes of a plot that is accepted for a page, the first refusal, or None if it is accepted, what is noted on its escapes,
-- how many notes there are on it, how many sheets have something, 0 where that is not counted, how many strokes and how many images
-- there were when each sheet of these ended, the page that it asks for where one is given, or None if it asks for none, and its
-- areas, its images and its labels, by these strokes: none in core
pub record Rules : Type 0 where
  pub strokes : Page → List ℕ → List Segment
  pub areas : Page → List ℕ → List Area
  pub refusal : Page → List ℕ → Option PlotFault
  pub told : Page → List ℕ → List (Option NoteKind)
  pub notes : Page → List ℕ → ℕ
  pub sheets : Page → List ℕ → ℕ
  pub ends : Page → List ℕ → List ℕ
  pub image_ends : Page → List ℕ → List ℕ
  pub asked : Page → List ℕ → Option Sides
  pub longest : ℕ
  pub images : Page → List ℕ → List ImageShape
  pub labels : Page → List ℕ → List LabelShape

-- what is noted on a plot in the profile core
abbrev pub core_notes : List ℕ → List Note
core_notes plot = core.notes (cut plot)

-- the rules of the profile core
abbrev pub core_rules : Rules
core_rules = record {
  strokes = plot_strokes;
  areas = λ page plot. [];
  refusal = plot_refusal;
  told = λ page plot. [];
  notes = λ page plot. length (core_notes plot);
  sheets = λ page plot. 0;
  ends = λ page plot. [];
  image_ends = λ page plot. [];
  asked = sides_asked profile.Core;
  longest = longest_side profile.Core;
  images = λ page plot. [];
  labels = λ page plot. [];
}

-- what is noted on a plot in the profile full, by what is noted on each of its escapes
abbrev pub full_notes : List (Option NoteKind) → List ℕ → List Note
full_notes told plot = full.notes_told told (full_cut plot)

-- where sheets end in what is drawn of one sheet, or of all sheets by 0
abbrev pub ends_of : ℕ → List ℕ → List ℕ
ends_of sheet ends = if nat_eq sheet 0 then ends else []

-- the rules of the profile full with the pens of a carousel, for a sheet, or for all sheets by 0
abbrev pub full_rules : ℕ → Encoding → Carousel → Rules
full_rules sheet encoding carousel =
    let drawn = outcome_with encoding carousel in
    record {
      strokes = λ page plot. sheet_strokes (strokes_in (drawn page plot)) (ends_in (drawn page plot)) sheet;
      areas = λ page plot. areas_of_sheet (areas_of (drawn page plot)) (ends_in (drawn page plot))
          (length (strokes_in (drawn page plot))) sheet;
      refusal = λ page plot. refusal_in (drawn page plot);
      told = λ page plot. told_of encoding carousel page plot;
      notes = λ page plot. length (full_notes (told_of encoding carousel page plot) plot);
      sheets = λ page plot. sheet_count (ends_in (drawn page plot)) (length (strokes_in (drawn page plot)))
          (image_ends_in (drawn page plot)) (length (images_in (drawn page plot)));
      ends = λ page plot. ends_of sheet (ends_in (drawn page plot));
      image_ends = λ page plot. ends_of sheet (image_ends_in (drawn page plot));
      asked = sides_asked profile.Full;
      longest = longest_side profile.Full;
      images = λ page plot. images_of_sheet (images_in (drawn page plot)) (image_ends_in (drawn page plot)) (ends_in (drawn page plot))
          (length (strokes_in (drawn page plot))) sheet;
      labels = λ page plot. labels_of_sheet (labels_of encoding carousel page plot) (ends_in (drawn page plot))
          (length (strokes_in (drawn page plot))) sheet;
    }

-- how a plot is drawn that is read so
abbrev pub rules_of : Reading → Rules
rules_of Core = core_rules
rules_of (Full sheet encoding) = full_rules sheet encoding empty

-- the same with the pens of a carousel
abbrev pub rules_with : Reading → Carousel → Rules
rules_with Core carousel = record core_rules {
  strokes = λ page plot. strokes_with carousel page (cut plot);
  refusal = λ page plot. refusal_with carousel page (cut plot);
}
rules_with (Full sheet encoding) carousel = full_rules sheet encoding carousel

-- how a plot is drawn with this setup
abbrev pub rules_in : Setup → Rules
rules_in setup = rules_with setup.reading setup.carousel.now

-- the shapes of a plot that is accepted for a page: its strokes, and the areas among them
abbrev pub shapes_by : Rules → Page → List ℕ → ShapeList
shapes_by rules page plot = record { strokes = rules.strokes page plot; areas = rules.areas page plot }

-- these shapes, and its images
abbrev pub contents_by : Rules → Page → List ℕ → ContentList
contents_by rules page plot = record { shapes = shapes_by rules page plot; images = rules.images page plot }

-- the picture of a job and a plot by these rules, smoothed n times
abbrev pub picture_by : Rules → ℕ → Job → Reach → List ℕ → List ℕ
picture_by rules n job reaches plot = contents_picture n job reaches (contents_by rules job.page plot)

-- the strip of it that is written: at most so many rows
abbrev pub strip_by : Rules → ℕ → Option ℕ → Job → Reach → List ℕ → List ℕ
strip_by rules n most job reaches plot = contents_strip n most job reaches (contents_by rules job.page plot)

-- a plot has a picture of a job by these rules: it is not too long, and nothing refuses it
pub record HasPictureBy (rules : Rules) (job : Job) (plot : List ℕ) : Type 0 where
  pub within : length plot ≤ LONGEST_PLOT
  pub accepted : refused_fault job (rules.refusal job.page plot) ≡ None

-- why a plot in memory has no picture of a job by these rules. No device fails; what memory does is left open
abbrev pub RefusesBy : Rules → Job → List ℕ → Fault → Type 0
RefusesBy rules job plot TooLong = LONGEST_PLOT < length plot
RefusesBy rules job plot (Write row whole bytes) = ⊥
RefusesBy rules job plot Read = ⊥
RefusesBy rules job plot Memory = ⊤
RefusesBy rules job plot Resolution = has_resolution job ≡ false
RefusesBy rules job plot fault = refused_fault job (rules.refusal job.page plot) ≡ Some fault
