-- The report on a plot, and what a report answers, from what it read.
use Rattle.std.specs.Prelude.{◌≡◌, ◌⊎◌, ℕ, ◌+◌, ◌<◌, List, length, take, Option, Result, Ok, Err, None, nat_le}
use Rattle.std.specs.Io.KnownBytes.{Consumes, Appends}
use Rattle.plot_page.specs.declared.page.Page.{Page}
use Rattle.devices.specs.Sinks.{SinkState}
use Rattle.conversion.specs.Drawings.{HasDrawn, IsNotDrawn}
use Rattle.conversion.specs.Sheets.{TellsOf, contents_on}
use Rattle.conversion.specs.declared.place.Drawing.{Drawing}
use Rattle.areas.specs.Shapes.{stroke_count}
use Rattle.rows.specs.Contents.{ContentList}
use Rattle.hpgl_plot.specs.declared.note.NoteKind.{NoteKind}
use Rattle.plot_report.specs.Report.{report_of, full_report_of, report_page}
use Rattle.plot_report.specs.declared.report_page.ReportPage.{ReportPage}
use Rattle.picture_job.specs.declared.reading.Reading.{Reading}
use Rattle.picture_job.specs.declared.reading.Reading.TheVariants.{Core, Full}
use Rattle.conversion.specs.Rules.{Rules, contents_by, core_notes, full_notes, rules_of, shapes_by}
use Rattle.plot_page.specs.Pens.{has_pen}
use Rattle.plot_page.specs.declared.pens.PenSet.{PenSet}
use Rattle.picture_job.specs.declared.page_choice.PageChoice.{PageChoice}
use Rattle.conversion.specs.declared.outcome.Outcome.{Outcome}
use Rattle.conversion.specs.Readings.{WasRead, WasTooLong}
use Rattle.devices.specs.Sources.{SourceState}
use Rattle.conversion.specs.declared.done.Done.{Done}
use Rattle.conversion.specs.declared.fault.Fault.{Fault}
use Rattle.conversion.specs.declared.fault.Fault.TheVariants.{TooLong, Memory, Plot, Write, Read}

-- the report on a plot that is read so, by the page that it names, its shapes, its images, its sheets, and what is noted on escapes
abbrev pub report_on : Reading → ReportPage → ContentList → ℕ → List (Option NoteKind) → List ℕ → List ℕ
report_on Core page contents sheets told plot = report_of page contents.shapes.strokes (core_notes plot)
report_on (Full sheet encoding) page contents sheets told plot =
    full_report_of page sheets contents.shapes contents.images (full_notes told plot)

-- that on a drawing of a plot, which has these contents
abbrev pub report_of_contents : Reading → Drawing → ContentList → List ℕ → List ℕ
report_of_contents reading drawing contents plot =
    report_on reading drawing.named contents drawing.lines.sheets drawing.lines.told.items plot

abbrev pub report_drawn : Reading → Drawing → List ℕ → List ℕ
report_drawn reading drawing plot = report_of_contents reading drawing (contents_on drawing 0) plot

-- that on a plot that is drawn by these rules
abbrev pub report_by : Reading → Rules → ReportPage → Page → List ℕ → List ℕ
report_by reading rules named page plot =
    report_on reading named (contents_by rules page plot) (rules.sheets page plot) (rules.told page plot) plot

-- the whole report was written
pub record IsReported (reading : Reading) (rules : Rules) (named : ReportPage) (page : Page) (input : List ℕ)
    (before after : SourceState) (sink sink' : SinkState) (done : Done) : Type 0 where
  pub read : WasRead input before after
  pub accepted : rules.refusal page input ≡ None
  pub written : Appends sink.held sink'.held (report_by reading rules named page input)
  pub sound : sink'.faults ≡ sink.faults
  pub rows : done.rows ≡ 0
  pub bytes : done.bytes ≡ length (report_by reading rules named page input)
  pub strokes_count : done.strokes ≡ stroke_count (shapes_by rules page input)
  pub areas_count : done.areas ≡ length (rules.areas page input)
  pub images_count : done.images ≡ length (rules.images page input)
  pub notes : done.notes ≡ rules.notes page input

-- the sink failed after the first bytes of the report, which has no rows to go on from
pub record IsReportCutShort (reading : Reading) (rules : Rules) (named : ReportPage) (page : Page) (input : List ℕ)
    (before after : SourceState) (sink sink' : SinkState) (row whole bytes : ℕ) : Type 0 where
  pub read : WasRead input before after
  pub accepted : rules.refusal page input ≡ None
  pub written : Appends sink.held sink'.held (take bytes (report_by reading rules named page input))
  pub within : bytes < length (report_by reading rules named page input)
  pub failed : sink'.faults ≡ sink.faults + 1
  pub no_row : row ≡ 0
  pub no_whole_row : whole ≡ 0

-- what each answer says. The conditions of two answers exclude one another, so each comes exactly if its own hold; want
-- of memory says only that the source did not fail
abbrev pub Reports : Reading → Page → List ℕ → SourceState → SourceState → SinkState → SinkState → Result Done Fault →
    Type 0
Reports reading page input before after sink sink' (Ok done) =
    IsReported reading (rules_of reading) (report_page page) page input before after sink sink' done
Reports reading page input before after sink sink' (Err Read) = after.faults ≡ before.faults + 1
Reports reading page input before after sink sink' (Err TooLong) = WasTooLong input before after
Reports reading page input before after sink sink' (Err Memory) = after.faults ≡ before.faults
Reports reading page input before after sink sink' (Err (Write row whole bytes)) =
    IsReportCutShort reading (rules_of reading) (report_page page) page input before after sink sink' row whole bytes
Reports reading page input before after sink sink' (Err (Plot fault)) =
    IsNotDrawn (rules_of reading) page input before after fault
Reports reading page input before after sink sink' (Err _) = ⊥

-- a report on a plot that is read so: what it took from the source, and its answer
pub record HasReportedAs (reading : Reading) (page : Page) (before after : SourceState) (sink sink' : SinkState)
    (answer : Result Done Fault) : Type 0 where
  pub input : List ℕ
  pub taken : Consumes before.left after.left input
  pub reports : Reports reading page input before after sink sink' answer

-- a report in the profile core
abbrev pub HasReported : Page → SourceState → SourceState → SinkState → SinkState → Result Done Fault → Type 0
HasReported = HasReportedAs Core

-- the pens 1 to 255
abbrev pub AreAllPens : PenSet → Type 0
AreAllPens pens = (pen : ℕ) → pen < 256 → has_pen pens pen ≡ nat_le 1 pen

-- what each answer says of a report on a drawing of a plot that is read so: it was written whole, or the sink failed after the
-- first bytes of it, which has no rows to go on from. The strokes of these pens are counted
abbrev pub WritesReport : Reading → PenSet → Drawing → List ℕ → SinkState → SinkState → Result Outcome Fault → Type 0
WritesReport reading pens drawing plot sink sink' (Ok outcome) =
    let text = report_drawn reading drawing plot in
    Appends sink.held sink'.held text × (sink'.faults ≡ sink.faults)
    × (outcome.done.rows ≡ 0) × (outcome.done.bytes ≡ length text)
    × TellsOf drawing pens (contents_on drawing 0) outcome
WritesReport reading pens drawing plot sink sink' (Err (Write row whole bytes)) =
    let text = report_drawn reading drawing plot in
    Appends sink.held sink'.held (take bytes text) × (bytes < length text) × (sink'.faults ≡ sink.faults + 1)
    × (row ≡ 0) × (whole ≡ 0)
WritesReport reading pens drawing plot sink sink' (Err _) = ⊥

-- a plot was read, drawn with all pens on the page that was chosen, and reported; or it was not drawn, for the reason that is
-- answered
pub record HasReportedOn (rules : Rules) (reading : Reading) (choice : PageChoice) (page : Page) (before after : SourceState)
    (sink sink' : SinkState) (answer : Result Outcome Fault) : Type 0 where
  pub pens : PenSet
  pub all : AreAllPens pens
  pub reports :
      ((drawing : Drawing) × (drawn : HasDrawn rules choice pens page before after (Ok drawing))
      × WritesReport reading pens drawing drawn.input sink sink' answer)
      ⊎ ((fault : Fault) × HasDrawn rules choice pens page before after (Err fault) × (answer ≡ Err fault))
