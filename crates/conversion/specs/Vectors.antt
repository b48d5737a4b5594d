-- Vector documents of plots: what is written for a drawing.
use Rattle.std.specs.Prelude.{◌≡◌, ◌↔◌, Bool, ℕ, ◌+◌, min, nat_eq, nat_le, nat_lt, true, false, if◌then◌else◌, List, [], ◌∷◌, length, Result, Ok, Err, IfOk, ⊤}
use Rattle.std.specs.Io.KnownBytes.{Appends}
use Rattle.areas.specs.Views.{areas_in}
use Rattle.areas.specs.declared.area.Area.{Area}
use Rattle.page_images.specs.Views.{images_in}
use Rattle.stroke_runs.specs.declared.view.SheetView.{SheetView}
use Rattle.plot_page.specs.Segments.{Segment}
use Rattle.plot_page.specs.declared.page.Page.{Page}
use Rattle.plot_page.specs.declared.pens.PenSet.{PenSet}
use Rattle.picture_job.specs.LabelChoices.{has_text}
use Rattle.picture_job.specs.declared.vector_job.LabelChoice.{LabelChoice}
use Rattle.picture_job.specs.declared.vector_job.VectorFormat.{VectorFormat}
use Rattle.picture_job.specs.declared.vector_job.VectorFormat.TheVariants.{Dxf, Pdf, Svg}
use Rattle.picture_job.specs.declared.vector_job.VectorJob.{VectorJob}
use Rattle.labels.specs.Labels.{LabelShape}
use Rattle.devices.specs.Sinks.{SinkState}
use Rattle.pdf.specs.Documents.{AreStreams, page_areas, pdf_bytes, pens_drawn, rows_shown, sheet_labels, sheets}
use Rattle.pdf.specs.Texts.{letter_count}
use Rattle.pdf.specs.declared.counts.TheConstants.{MOST_LETTERS}
use Rattle.dxf.specs.Documents.{dxf_bytes, dxf_sheets_bytes}
use Rattle.rows.specs.Contents.{ContentList}
use Rattle.svg.specs.Sections.{Contents, sheets_document, svg_document}
use Rattle.conversion.specs.Rules.{ends_of}
use Rattle.conversion.specs.Sheets.{TellsOf, contents_on, labels_on}
use Rattle.conversion.specs.declared.fault.Fault.{Fault}
use Rattle.conversion.specs.declared.fault.Fault.TheVariants.{Letters, Memory, Unfinished}
use Rattle.conversion.specs.declared.naming.Naming.{Naming}
use Rattle.conversion.specs.declared.naming.TheConstants.{MOST_CHARACTERS}
use Rattle.conversion.specs.declared.outcome.Outcome.{Outcome}
use Rattle.conversion.specs.declared.place.Drawing.{Drawing}

-- a title is kept if it is not too long; an empty one is none
abbrev pub title_kept : List ℕ → List ℕ
title_kept title = if nat_le (length title) MOST_CHARACTERS then title else []

-- where pages end after the first `at` of so many strokes: where a sheet ends that has strokes, and where the strokes end
abbrev pub ends_after : ℕ → ℕ → List ℕ → List ℕ
ends_after count at [] = if nat_lt at count then count ∷ [] else []
ends_after count at (end ∷ ends) =
    let here = min end count in
    if nat_lt at here then here ∷ ends_after count here ends else ends_after count at ends

-- the same of all strokes: where there are none, there is an empty page
abbrev pub page_ends : ℕ → List ℕ → List ℕ
page_ends count ends = if nat_eq count 0 then 0 ∷ [] else ends_after count 0 ends

-- what an SVG shows of shapes, images and labels
abbrev pub svg_contents : ContentList → List LabelShape → Contents
svg_contents contents labels = record {
  strokes = contents.shapes.strokes;
  areas = contents.shapes.areas;
  labels = labels;
  images = contents.images;
}

-- the SVG of these, among whose strokes and images sheets end there: with a group for each sheet, if one ends
abbrev pub svg_of : Page → PenSet → ContentList → List ℕ → List ℕ → List LabelShape → List ℕ
svg_of page pens contents ends image_ends labels =
    if nat_eq (length ends) 0 then svg_document page pens (svg_contents contents labels) else
    sheets_document page pens (svg_contents contents labels) ends image_ends

-- what a view of a sheet has
abbrev pub contents_seen : SheetView → ContentList
contents_seen view = record {
  shapes = record { strokes = view.strokes.now; areas = areas_in view.areas };
  images = images_in view.images;
}

-- the DXF of strokes, areas and labels: with layers for each sheet, if one ends
abbrev pub dxf_of : Page → PenSet → List Segment → List Area → List ℕ → List LabelShape → List ℕ
dxf_of page pens strokes areas ends labels =
    if nat_eq (length ends) 0 then dxf_bytes page pens strokes areas labels else
    dxf_sheets_bytes page pens strokes areas ends labels

-- a PDF of the same, with a page for each sheet
abbrev pub IsPdf : Naming → Page → PenSet → List Segment → List Area → List ℕ → List LabelShape → List ℕ → Type 0
IsPdf naming page pens strokes areas ends labels document =
    let pages = page_ends (length strokes) ends in
    (streams : List (List ℕ))
    × AreStreams page pens (sheets strokes 0 pages) (page_areas areas 0 pages) (sheet_labels labels 0 pages) streams
    × (document ≡ pdf_bytes naming.version.now (title_kept naming.title.now) page (pens_drawn pens strokes)
    (rows_shown pens strokes labels) pages streams)

-- a document of what is drawn, with these labels, in a format. Only an SVG has images
abbrev pub IsVector : VectorFormat → Naming → Page → PenSet → ContentList → List ℕ → List ℕ → List LabelShape → List ℕ → Type 0
IsVector Svg naming page pens contents ends image_ends labels document = document ≡ svg_of page pens contents ends image_ends labels
IsVector Pdf naming page pens contents ends image_ends labels document =
    IsPdf naming page pens contents.shapes.strokes contents.shapes.areas ends labels document
IsVector Dxf naming page pens contents ends image_ends labels document =
    document ≡ dxf_of page pens contents.shapes.strokes contents.shapes.areas ends labels

-- the fault that says so
abbrev pub is_letters : Fault → Bool
is_letters Letters = true
is_letters _ = false

-- labels have more letters than a document of a format takes: only a PDF does not take any
abbrev pub has_too_many_letters : VectorFormat → List LabelShape → Bool
has_too_many_letters Pdf labels = nat_lt MOST_LETTERS (letter_count labels)
has_too_many_letters _ labels = false

-- a document was written after what the sink held, the sink failed, there were too many letters, or there was no memory
abbrev pub PutsVector : {U : Type 0} → (List ℕ → Type 0) → SinkState → SinkState → Result U Fault → Type 0
PutsVector IsIt sink sink' (Ok _) =
    (document : List ℕ) × IsIt document × Appends sink.held sink'.held document × (sink'.faults ≡ sink.faults)
PutsVector IsIt sink sink' (Err Unfinished) = sink'.faults ≡ sink.faults + 1
PutsVector IsIt sink sink' (Err Letters) = ⊤
PutsVector IsIt sink sink' (Err Memory) = ⊤
PutsVector IsIt sink sink' (Err _) = ⊥

-- the labels of a sheet of a drawing that are written: all of them, or none if labels are strokes only
abbrev pub labels_written : LabelChoice → Drawing → ℕ → List LabelShape
labels_written choice drawing sheet = if has_text choice then labels_on drawing sheet else []

-- the document of a sheet of a drawing, or of all that is drawn for 0, was written, on the page where the drawing lies; it has
-- no rows, and its bytes are not counted
pub record WritesVector (job : VectorJob) (naming : Naming) (drawing : Drawing) (sheet : ℕ) (sink sink' : SinkState)
    (answer : Result Outcome Fault) : Type 0 where
  pub puts : PutsVector (IsVector job.format naming drawing.page job.pens (contents_on drawing sheet)
      (ends_of sheet drawing.lines.ends.items) (ends_of sheet drawing.lines.image_ends.items)
      (labels_written job.labels drawing sheet)) sink sink' answer
  pub letters : (answer ≡ Err Letters) ↔ (has_too_many_letters job.format (labels_written job.labels drawing sheet) ≡ true)
  pub rows : IfOk answer (λ outcome. outcome.done.rows ≡ 0)
  pub bytes : IfOk answer (λ outcome. outcome.done.bytes ≡ 0)
  pub tells : IfOk answer (TellsOf drawing job.pens (contents_on drawing sheet))
