use Rattle.std.proofs.Common.{◌≡◌, ◌∙◌, ℕ, List, Option, IfOk, Result, ap, length, subst, sym}
use Rattle.areas.specs.Views.{shapes_in}
use Rattle.character_sets.specs.declared.encoding.Encoding.{Encoding}
use Rattle.devices.specs.Sinks.{Writes}
use Rattle.full_notes.specs.Notes.{notes_told}
use Rattle.full_text.specs.Cut.{full_cut}
use Rattle.hpgl_plot.specs.declared.note.Note.{Note}
use Rattle.hpgl_plot.specs.declared.note.NoteKind.{NoteKind}
use Rattle.page_images.specs.Views.{images_in}
use Rattle.picture_job.specs.declared.reading.Reading.{Reading}
use Rattle.picture_job.specs.declared.reading.Reading.TheVariants.{Full}
use Rattle.plot_report.specs.Report.{full_report_of}
use Rattle.rows.specs.Contents.{contents_in}
use Rattle.rows.specs.declared.contents.Contents.{Contents}
use Rattle.conversion.specs.Reports.{report_of_contents}
use Rattle.conversion.specs.declared.place.Drawing.{Drawing}
use Rattle.conversion.proofs.CountedImages.{report_counted}
use Rattle.conversion.proofs.report_plot.write_as.Goals as goal

-- a report by notes on a plot, of which this is told, is that on the contents
text_is : (reading : Reading) (sheet : ℕ) (encoding : Encoding) (drawing : Drawing) (contents : Contents) (told : List (Option NoteKind)) (notes : List Note) (plot : List ℕ)
    → reading ≡ Full sheet encoding → told ≡ drawing.lines.told.items → notes ≡ notes_told told (full_cut plot)
    → full_report_of drawing.named drawing.lines.sheets (shapes_in contents.shapes) contents.images.list.now notes
    ≡ report_of_contents reading drawing (contents_in contents) plot
text_is reading sheet encoding drawing contents told notes plot is kept noted =
    let images = contents.images in
    let report : List Note → List ℕ = λ ns. full_report_of drawing.named drawing.lines.sheets (shapes_in contents.shapes) (images_in images) ns in
    sym (report_counted drawing.named drawing.lines.sheets (shapes_in contents.shapes) images.first images.list.now notes)
    ∙ ap report (noted ∙ ap (λ (t : List (Option NoteKind)). notes_told t (full_cut plot)) kept)
    ∙ ap (λ (r : Reading). report_of_contents r drawing (contents_in contents) plot) (sym is)

pub returns-in-Full-clause-writes : goal.returns-in-Full-clause-writes
returns-in-Full-clause-writes g c =
    let e = text_is c.args.reading _ _ c.args.drawing.now c.args.contents _ _ c.args.plot.now c.in-Full.is c.as_slice.ensures.value c.new-notes.ensures.notes in
    let was = g.K.Sink.state c.args.sink.now in
    let is = g.K.Sink.state c.write_full_report.new.sink in
    subst (λ (text : List ℕ). Writes was is text c.write_full_report.result) e c.write_full_report.ensures.writes

pub returns-in-Full-clause-count : goal.returns-in-Full-clause-count
returns-in-Full-clause-count g c =
    let e = text_is c.args.reading _ _ c.args.drawing.now c.args.contents _ _ c.args.plot.now c.in-Full.is c.as_slice.ensures.value c.new-notes.ensures.notes in
    subst (λ (text : List ℕ). IfOk c.write_full_report.result (λ n. n ≡ length text)) e c.write_full_report.ensures.count
