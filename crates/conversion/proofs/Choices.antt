-- Runs on the page that is given.
use Rattle.std.proofs.Common.{◌≡◌, ◌≤◌, ◌<◌, ◌+◌, ◌∙◌, ◌-◌, ℕ, Bool, false, true, List, [], length, take, inl, inr, Option, Result, Ok, Err, Some, None, refl, ap, ap₂, arith, rules, subst, sym}
use Rattle.hpgl_plot.specs.declared.fault.PlotFault.{PlotFault}
use Rattle.hpgl_plot.specs.declared.fault.PlotFault.TheVariants as plot
use Rattle.plot_page.specs.Resolutions.{rows_of}
use Rattle.plot_page.specs.declared.page.Page.{Page}
use Rattle.plot_page.specs.declared.pens.PenSet.{PenSet}
use Rattle.picture_job.specs.declared.job.Job.{Job}
use Rattle.picture_job.specs.declared.page_choice.PageChoice.{PageChoice}
use Rattle.picture_job.specs.declared.row_choice.RowChoice.{RowChoice}
use Rattle.picture_job.specs.declared.reading.Reading.{Reading}
use Rattle.picture_out.specs.Forms.{foot_bytes}
use Rattle.rows.specs.Boxes.{strip_boxes, strokes_boxes}
use Rattle.rows.proofs.Joined.{foot_at_end, whole_boxes}
use Rattle.conversion.specs.Conversions.{Converts, HasConvertedBy}
use Rattle.conversion.specs.PageJobs.{has_too_many_pixels, on_page, times_on}
use Rattle.conversion.specs.Drawings.{AreLinesOf, Draws, HasDrawn, IsDrawn, IsReasonOnFirst, place_of}
use Rattle.conversion.specs.Faults.{of_plot}
use Rattle.conversion.specs.Kinds.{HasDrawnFor, HasDrawnTurned}
use Rattle.picture_job.specs.declared.picture.Picture.{Picture}
use Rattle.picture_job.specs.declared.picture.Picture.TheVariants.{Rows}
use Rattle.rows.specs.Pictures.{Reach, end_of, head_of, picture_of}
use Rattle.rows.specs.ImagePictures.{contents_row}
use Rattle.conversion.specs.Placements.{IsDrawnOn, IsPlaced, IsPlacedBy, Place, no_corner, page_reported, place_on, placed_rules}
use Rattle.areas.specs.Shapes.{stroke_count}
use Rattle.rows.specs.Contents.{ContentList}
use Rattle.hpgl_plot.specs.declared.note.NoteKind.{NoteKind}
use Rattle.rows.specs.Progress.{HasPainted, IsWhole}
use Rattle.conversion.specs.Readings.{WasRead}
use Rattle.conversion.specs.Reports.{HasReportedAs, HasReportedOn, Reports, WritesReport, report_by, report_drawn, report_on}
use Rattle.plot_report.specs.Report.{report_page}
use Rattle.std.specs.Io.KnownBytes.{Appends, Consumes}
use Rattle.conversion.specs.Rules.{Rules, core_rules, rules_in, rules_of, rules_with, contents_by}
use Rattle.conversion.specs.Sheets.{PaintsShapes, WritesShapes, contents_on}
use Rattle.carousel.specs.Carousels.{empty}
use Rattle.directions.specs.declared.turn.Turn.{Turn}
use Rattle.directions.specs.declared.turn.Turn.TheVariants as turns
use Rattle.carousel.specs.declared.carousel.Carousel.{Carousel}
use Rattle.hpgl_plot.proofs.ByCarousel.{strokes_with_none, refusal_with_none}
use Rattle.hpgl_text.specs.Cut.{cut}
use Rattle.picture_job.specs.declared.reading.Reading.TheVariants.{Core, Full}
use Rattle.conversion.specs.declared.done.Done.{Done}
use Rattle.conversion.specs.declared.setup.Setup.{Setup}
use Rattle.conversion.specs.declared.outcome.Outcome.{Outcome}
use Rattle.conversion.specs.declared.place.Drawing.{Drawing}
use Rattle.conversion.specs.declared.placement.Placement.TheVariants.{Given}
use Rattle.plot_report.specs.declared.report_page.ReportPage.{ReportPage}
use Rattle.rows.specs.declared.fault.PictureFault.{PictureFault}
use Rattle.conversion.specs.declared.fault.Fault.{Fault}
use Rattle.conversion.specs.declared.fault.Fault.TheVariants.{Letters, Memory, Paint, Pixels, Plot, Read, Resolution, TooLong, Unfinished, Unturned, Write}
use Rattle.conversion.proofs.Placements.{first_page}
use Rattle.conversion.proofs.Refusals.{job_faults, not_painted, plot_fault, too_many_pixels}
use Rattle.devices.specs.Sinks.{SinkState}
use Rattle.devices.specs.Sources.{SourceState}

-- the answer of a run, without the page
abbrev pub done_of : Result Outcome Fault → Result Done Fault
done_of (Ok o) = Ok o.done
done_of (Err fault) = Err fault

-- the page that is given
abbrev pub given_choice : PageChoice
given_choice = record { asked = false; margin = None; pixels = None }

place_is : (p : Place) (given : Page) → (p.corner ≡ no_corner) × (p.page ≡ p.drawn_on) → (p.placement ≡ Given) × (p.drawn_on ≡ given) → p ≡ place_on Given given
place_is p given still on = λ i. record { placement = on.0 i; drawn_on = on.1 i; corner = still.0 i; page = (still.1 ∙ on.1) i }

-- by this choice a picture lies on the given page
given_place : (rules : Rules) (pens : PenSet) (given : Page) (plot : List ℕ) (p : Place) → IsPlaced given_choice rules pens given plot p → p ≡ place_on Given given
given_place rules pens given plot p placed =
    let by : IsPlacedBy None given_choice rules pens given plot p = placed in
    let on : IsDrawnOn false rules given plot p.placement p.drawn_on = by.0 in
    place_is p given (by.1, by.2) on

-- a plot that was not drawn has no picture
not_converted : (rules : Rules) (job : Job) (reaches : Reach) (input : List ℕ) (before after : SourceState) (sink sink' : SinkState) (fault : Fault)
    → Draws rules given_choice job.pens job.page input before after (Err fault) → Converts rules 1 job reaches input before after sink sink' (Err fault)
not_converted rules job reaches input before after sink sink' TooLong h = h
not_converted rules job reaches input before after sink sink' Memory h = h
not_converted rules job reaches input before after sink sink' Read h = h
not_converted rules job reaches input before after sink sink' (Plot refusal) h =
    let here = first_page given_choice rules job.page input h.0 h.1 refl in
    let refused = subst (λ (page : Page). rules.refusal page input ≡ Some refusal) here h.2.refused in
    record { read = h.2.read; refused = plot_fault job (rules.refusal job.page input) refusal refused }
not_converted rules job reaches input before after sink sink' (Paint fault) h = absurd h
not_converted rules job reaches input before after sink sink' (Write row whole bytes) h = absurd h
not_converted rules job reaches input before after sink sink' Resolution h = absurd h
not_converted rules job reaches input before after sink sink' Letters h = absurd h
not_converted rules job reaches input before after sink sink' Unturned h = absurd h
not_converted rules job reaches input before after sink sink' Pixels h = absurd h
not_converted rules job reaches input before after sink sink' Unfinished h = absurd h

-- a plot that was read, and is refused for its first page
pub not_drawn : (rules : Rules) (c : PageChoice) (pens : PenSet) (given : Page) (input : List ℕ) (before after : SourceState) (fault : PlotFault) → WasRead input before after
    → IsReasonOnFirst c rules given input fault → Draws rules c pens given input before after (Err (of_plot fault))
not_drawn rules c pens given input before after plot.Memory read h = read.sound
not_drawn rules c pens given input before after (plot.OffRange at) read h = (h.0, h.1, record { read = read; refused = h.2 })
not_drawn rules c pens given input before after (plot.TooManyStrokes at) read h = (h.0, h.1, record { read = read; refused = h.2 })

-- reports of the same shapes, sheets and plot are the same
pub same_report : (reading : Reading) (page page' : ReportPage) (ss ss' : ContentList) (n n' : ℕ) (told told' : List (Option NoteKind)) (plot plot' : List ℕ)
    → page ≡ page' → ss ≡ ss' → n ≡ n' → told ≡ told' → plot ≡ plot' → report_on reading page ss n told plot ≡ report_on reading page' ss' n' told' plot'
same_report reading page page' ss ss' n n' told told' plot plot' named contents sheets notes text = rw (named, contents, sheets, notes, text) refl

-- all that is on a drawing is of its plot
contents_drawn : (rules : Rules) (pens : PenSet) (input : List ℕ) (drawing : Drawing) → AreLinesOf (placed_rules rules pens (place_of drawing)) drawing.page input drawing.lines
    → contents_on drawing 0 ≡ contents_by (placed_rules rules pens (place_of drawing)) drawing.page input
contents_drawn rules pens input drawing are =
    λ i. record { shapes = record { strokes = are.strokes_are i; areas = are.areas_are i }; images = are.images_are i }

-- the picture of all shapes of a drawing, which is not smoothed
module _ (rules : Rules) (chosen : RowChoice) (job : Job) (reaches : Reach) (input : List ℕ) (before after : SourceState) (sink sink' : SinkState) (drawing : Drawing)
    (drawn : IsDrawn rules given_choice job.pens job.page input before after drawing) (once : chosen.smoothing.times ≡ 1) (whole : chosen.most_rows ≡ None) where
  lies : place_of drawing ≡ place_on Given job.page
  lies = given_place rules job.pens job.page input (place_of drawing) drawn.placed

  here : drawing.page ≡ job.page
  here = ap (λ (place : Place). place.page) lies

  accepted : rules.refusal job.page input ≡ None
  accepted = subst (λ (place : Place). rules.refusal place.drawn_on input ≡ None) lies drawn.lines.accepted

  contents_given : contents_on drawing 0 ≡ contents_by rules job.page input
  contents_given = contents_drawn rules job.pens input drawing drawn.lines ∙ ap (λ (place : Place). contents_by (placed_rules rules job.pens place) place.page input) lies

  painted : (contents : ContentList) (answer : Result ℕ PictureFault) → contents ≡ contents_by rules job.page input
      → HasPainted (times_on given_choice drawing.page job chosen.smoothing) chosen.most_rows (on_page given_choice drawing.page job) reaches contents sink sink' answer
      → HasPainted 1 None job reaches (contents_by rules job.page input) sink sink' answer
  painted contents answer are h =
      let n = chosen.smoothing.times in
      let there = subst (λ (page : Page). HasPainted n chosen.most_rows (on_page given_choice page job) reaches contents sink sink' answer) here h in
      let all = subst (λ (most : Option ℕ). HasPainted n most job reaches contents sink sink' answer) whole there in
      subst (λ (k : ℕ). HasPainted k None job reaches (contents_by rules job.page input) sink sink' answer) once
      (subst (λ (ss : ContentList). HasPainted n None job reaches ss sink sink' answer) are all)

  painting_converted : (contents : ContentList) (answer : Result Outcome Fault) → contents ≡ contents_by rules job.page input → has_too_many_pixels job.page job.dots ≡ false
      → PaintsShapes given_choice chosen job drawing contents reaches sink sink' answer → Converts rules 1 job reaches input before after sink sink' (done_of answer)
  painting_converted contents (Err fault) are few h =
      subst (λ (f : Fault). Converts rules 1 job reaches input before after sink sink' (Err f)) (sym h.1)
      (not_painted rules 1 job reaches input before after sink sink' h.0 drawn.read accepted few (painted contents (Err h.0) are h.2))
  painting_converted contents (Ok o) are few h =
      let painting = painted contents (Ok o.done.bytes) are h.0 in
      let rows = rows_of job.page job.dots in
      let text = contents_row 1 job reaches (contents_by rules job.page input) in
      let wrote = subst (λ (foot : List ℕ). IsWhole (picture_of (head_of job.form job.page job.dots) text foot rows job.first_row) sink sink' o.done.bytes) (foot_at_end (foot_bytes job.form) rows) painting.1 in
      record {
        read = drawn.read;
        accepted = job_faults job (rules.refusal job.page input) None accepted few painting.0;
        written = wrote.written;
        sound = wrote.sound;
        rows = h.1 ∙ ap₂ (λ (most : Option ℕ) (page : Page). end_of most job.first_row (rows_of page job.dots) - job.first_row) whole here;
        bytes = wrote.count;
        strokes_count = h.2.strokes_count ∙ ap (λ (ss : ContentList). stroke_count ss.shapes) are;
        areas_count = h.2.areas_count ∙ ap (λ (ss : ContentList). length ss.shapes.areas) are;
        images_count = h.2.images_count ∙ ap (λ (ss : ContentList). length ss.images) are;
        notes = h.2.notes ∙ drawn.lines.notes_are ∙ ap (λ (place : Place). rules.notes place.drawn_on input) lies;
      }

  converted : (contents : ContentList) (answer : Result Outcome Fault) → contents ≡ contents_by rules job.page input
      → WritesShapes given_choice chosen job drawing contents reaches sink sink' answer → Converts rules 1 job reaches input before after sink sink' (done_of answer)
  converted contents answer are h = judged (has_too_many_pixels drawing.page job.dots) refl
    where
      judged : (b : Bool) → has_too_many_pixels drawing.page job.dots ≡ b → Converts rules 1 job reaches input before after sink sink' (done_of answer)
      judged true many =
          let there = subst (λ (page : Page). has_too_many_pixels page job.dots ≡ true) here many in
          subst (λ (r : Result Outcome Fault). Converts rules 1 job reaches input before after sink sink' (done_of r)) (sym (h.refused many).0)
          (record { read = drawn.read; refused = too_many_pixels job (rules.refusal job.page input) accepted there })
      judged false few =
          let there = subst (λ (page : Page). has_too_many_pixels page job.dots ≡ false) here few in
          painting_converted contents answer are there (h.painted few)

  few_tests : (contents : ContentList) (tests tests' : ℕ) → contents ≡ contents_by rules job.page input
      → tests' ≤ tests + strip_boxes (times_on given_choice drawing.page job chosen.smoothing) chosen.most_rows (on_page given_choice drawing.page job) contents.shapes.strokes
      → tests' ≤ tests + strokes_boxes 1 job (rules.strokes job.page input)
  few_tests contents tests tests' are h =
      let n = chosen.smoothing.times in
      let there = subst (λ (page : Page). tests' ≤ tests + strip_boxes n chosen.most_rows (on_page given_choice page job) contents.shapes.strokes) here h in
      let all = subst (λ (most : Option ℕ). tests' ≤ tests + strip_boxes n most job contents.shapes.strokes) whole there in
      let few = subst (λ (k : ℕ). tests' ≤ tests + k) (whole_boxes n job contents.shapes.strokes) all in
      subst (λ (k : ℕ). tests' ≤ tests + strokes_boxes k job (rules.strokes job.page input)) once
      (subst (λ (ss : ContentList). tests' ≤ tests + strokes_boxes n job ss.shapes.strokes) are few)

-- an empty carousel changes nothing
with_none : (reading : Reading) (carousel : Carousel) → carousel ≡ empty → rules_with reading carousel ≡ rules_of reading
with_none Core carousel none = ap (rules_with Core) none ∙ (λ i. record core_rules { strokes = λ page plot. strokes_with_none page (cut plot) i; refusal = λ page plot. refusal_with_none page (cut plot) i })
with_none (Full sheet encoding) carousel none = ap (rules_with (Full sheet encoding)) none

-- a conversion with an empty carousel
converted_with_none : (reading : Reading) (carousel : Carousel) (job : Job) (reaches : Reach) (before after : SourceState) (sink sink' : SinkState) (tests tests' : ℕ) (answer : Result Done Fault)
    → carousel ≡ empty → HasConvertedBy (rules_with reading carousel) job reaches before after sink sink' tests tests' answer
    → HasConvertedBy (rules_of reading) job reaches before after sink sink' tests tests' answer
converted_with_none reading carousel job reaches before after sink sink' tests tests' answer none h =
    subst (λ (rules : Rules). HasConvertedBy rules job reaches before after sink sink' tests tests' answer) (with_none reading carousel none) h

-- a conversion that drew a plot for a request, and then wrote the picture of all shapes, or did not draw it, or not even read it
module _ (reading : Reading) (carousel : Carousel) (chosen : RowChoice) (job : Job) (reaches : Reach) (before after : SourceState) (none : carousel ≡ empty) where
  pub drawn_so : (setup : Setup) (picture : Picture) (answer : Result Drawing Fault) → rules_in setup ≡ rules_with reading carousel → setup.choice ≡ given_choice → setup.turn ≡ turns.None → picture ≡ Rows job chosen
      → HasDrawnTurned setup.turn (rules_in setup) setup.choice picture before after answer
      → HasDrawn (rules_with reading carousel) given_choice job.pens job.page before after answer
  drawn_so setup picture answer by choice upright is h =
      let drawn = subst (λ (turn : Turn). HasDrawnTurned turn (rules_in setup) setup.choice picture before after answer) upright h in
      let there = subst (λ (rules : Rules). HasDrawnFor rules setup.choice picture before after answer) by drawn in
      let given = subst (λ (c : PageChoice). HasDrawnFor (rules_with reading carousel) c picture before after answer) choice there in
      (subst (λ (p : Picture). HasDrawnFor (rules_with reading carousel) given_choice p before after answer) is given).draws

  pub converted_given : (sink sink' : SinkState) (tests tests' : ℕ) (drawing : Drawing) (contents : ContentList) (answer : Result Outcome Fault) → chosen.smoothing.times ≡ 1 → chosen.most_rows ≡ None
      → HasDrawn (rules_with reading carousel) given_choice job.pens job.page before after (Ok drawing) → contents ≡ contents_on drawing 0
      → WritesShapes given_choice chosen job drawing contents reaches sink sink' answer
      → tests' ≤ tests + strip_boxes (times_on given_choice drawing.page job chosen.smoothing) chosen.most_rows (on_page given_choice drawing.page job) contents.shapes.strokes
      → HasConvertedBy (rules_of reading) job reaches before after sink sink' tests tests' (done_of answer)
  converted_given sink sink' tests tests' drawing contents answer once whole drawn are wrote tested =
      let by : Rules = rules_with reading carousel in
      let all = are ∙ contents_given by chosen job reaches drawn.input before after sink sink' drawing drawn.draws once whole in
      converted_with_none reading carousel job reaches before after sink sink' tests tests' (done_of answer) none (record {
        input = drawn.input;
        taken = drawn.taken;
        converts = converted by chosen job reaches drawn.input before after sink sink' drawing drawn.draws once whole contents answer all wrote;
        tested = few_tests by chosen job reaches drawn.input before after sink sink' drawing drawn.draws once whole contents tests tests' all tested;
      })

  pub not_converted_given : (sink : SinkState) (tests : ℕ) (fault : Fault) → HasDrawn (rules_with reading carousel) given_choice job.pens job.page before after (Err fault)
      → HasConvertedBy (rules_of reading) job reaches before after sink sink tests tests (Err fault)
  not_converted_given sink tests fault drawn =
      converted_with_none reading carousel job reaches before after sink sink tests tests (Err fault) none (record {
        input = drawn.input;
        taken = drawn.taken;
        converts = not_converted (rules_with reading carousel) job reaches drawn.input before after sink sink fault drawn.draws;
        tested = omega arith;
      })

none_taken : (left : Option (List ℕ)) → Consumes left left []
none_taken None = tt
none_taken (Some xs) = refl

pub not_read : (rules : Rules) (job : Job) (reaches : Reach) (source : SourceState) (sink : SinkState) (tests : ℕ) (fault : Fault) → fault ≡ Resolution
    → HasConvertedBy rules job reaches source source sink sink tests tests (Err fault)
not_read by job reaches source sink tests fault is = rw is (record { input = []; taken = none_taken source.left; converts = refl; tested = omega arith })

-- the report on the page that is given
module _ (reading : Reading) (pens : PenSet) (given : Page) (input : List ℕ) (before after : SourceState) (sink sink' : SinkState) where
  not_reported : (fault : Fault) → Draws (rules_of reading) given_choice pens given input before after (Err fault) → Reports reading given input before after sink sink' (Err fault)
  not_reported TooLong h = h
  not_reported Memory h = h
  not_reported Read h = h
  not_reported (Plot refusal) h =
      let here = first_page given_choice (rules_of reading) given input h.0 h.1 refl in
      record { read = h.2.read; refused = subst (λ (page : Page). (rules_of reading).refusal page input ≡ Some refusal) here h.2.refused }
  not_reported (Paint fault) h = absurd h
  not_reported (Write row whole bytes) h = absurd h
  not_reported Resolution h = absurd h
  not_reported Letters h = absurd h
  not_reported Unturned h = absurd h
  not_reported Pixels h = absurd h
  not_reported Unfinished h = absurd h

  module _ (drawing : Drawing) (drawn : IsDrawn (rules_of reading) given_choice pens given input before after drawing) where
    there : place_of drawing ≡ place_on Given given
    there = given_place (rules_of reading) pens given input (place_of drawing) drawn.placed

    contents_there : contents_on drawing 0 ≡ contents_by (rules_of reading) given input
    contents_there = contents_drawn (rules_of reading) pens input drawing drawn.lines ∙ ap (λ (place : Place). contents_by (placed_rules (rules_of reading) pens place) place.page input) there

    accepted_there : (rules_of reading).refusal given input ≡ None
    accepted_there = subst (λ (place : Place). (rules_of reading).refusal place.drawn_on input ≡ None) there drawn.lines.accepted

    text_there : report_drawn reading drawing input ≡ report_by reading (rules_of reading) (report_page given) given input
    text_there =
        let sheets = drawn.lines.sheets_are ∙ ap (λ (place : Place). (rules_of reading).sheets place.drawn_on input) there in
        let told = drawn.lines.told_are ∙ ap (λ (place : Place). (rules_of reading).told place.drawn_on input) there in
        same_report reading _ _ _ _ _ _ _ _ input input (drawn.named ∙ ap page_reported there) contents_there sheets told refl

    reported : (answer : Result Outcome Fault) → WritesReport reading pens drawing input sink sink' answer → Reports reading given input before after sink sink' (done_of answer)
    reported (Ok o) h = record {
      read = drawn.read;
      accepted = accepted_there;
      written = subst (λ (t : List ℕ). Appends sink.held sink'.held t) text_there h.0;
      sound = h.1;
      rows = h.2;
      bytes = h.3 ∙ ap length text_there;
      strokes_count = h.4.strokes_count ∙ ap (λ (ss : ContentList). stroke_count ss.shapes) contents_there;
      areas_count = h.4.areas_count ∙ ap (λ (ss : ContentList). length ss.shapes.areas) contents_there;
      images_count = h.4.images_count ∙ ap (λ (ss : ContentList). length ss.images) contents_there;
      notes = h.4.notes ∙ drawn.lines.notes_are ∙ ap (λ (place : Place). (rules_of reading).notes place.drawn_on input) there;
    }
    reported (Err (Write row whole bytes)) h = record {
      read = drawn.read;
      accepted = accepted_there;
      written = subst (λ (t : List ℕ). Appends sink.held sink'.held (take bytes t)) text_there h.0;
      within = subst (λ (t : List ℕ). bytes < length t) text_there h.1;
      failed = h.2;
      no_row = h.3;
      no_whole_row = h.4;
    }
    reported (Err TooLong) h = absurd h
    reported (Err Memory) h = absurd h
    reported (Err Read) h = absurd h
    reported (Err (Plot fault)) h = absurd h
    reported (Err (Paint fault)) h = absurd h
    reported (Err Resolution) h = absurd h
    reported (Err Letters) h = absurd h
    reported (Err Unturned) h = absurd h
    reported (Err Pixels) h = absurd h
    reported (Err Unfinished) h = absurd h

reported_by_it : (reading : Reading) (given : Page) (before after : SourceState) (sink sink' : SinkState) (answer : Result Outcome Fault)
    → HasReportedOn (rules_of reading) reading given_choice given before after sink sink' answer → HasReportedAs reading given before after sink sink' (done_of answer)
reported_by_it reading given before after sink sink' answer h = elim h.reports [
  | inl done ↦ record {
    input = done.1.input;
    taken = done.1.taken;
    reports = reported reading h.pens given done.1.input before after sink sink' done.0 done.1.draws answer done.2;
  }
  | inr none ↦
      let refused = not_reported reading h.pens given none.1.input before after sink sink' none.0 none.1.draws in
      record {
        input = none.1.input;
        taken = none.1.taken;
        reports = subst (λ (r : Result Outcome Fault). Reports reading given none.1.input before after sink sink' (done_of r)) (sym none.2) refused;
      }
]

pub reported_on_it : (reading : Reading) (carousel : Carousel) (given : Page) (before after : SourceState) (sink sink' : SinkState) (answer : Result Outcome Fault)
    → carousel ≡ empty → HasReportedOn (rules_with reading carousel) reading given_choice given before after sink sink' answer
    → HasReportedAs reading given before after sink sink' (done_of answer)
reported_on_it reading carousel given before after sink sink' answer none h =
    reported_by_it reading given before after sink sink' answer
    (subst (λ (rules : Rules). HasReportedOn rules reading given_choice given before after sink sink' answer) (with_none reading carousel none) h)
