use Rattle.std.proofs.Common.{◌≡◌, ℕ, ◌≤◌, ◌+◌, ◌∙◌, List, ap, subst}
use Rattle.plot_page.specs.Segments.{Segment}
use Rattle.picture_job.specs.declared.png_job.PngJob.{PngJob}
use Rattle.rows.specs.Documents.{is_png_possible, png_boxes}
use Rattle.conversion.proofs.Drawn.{png_possible_on}
use Rattle.conversion.proofs.png_sheet.write_png_shapes.Goals as goal

pub paint_png-sink-requires-clause-possible : goal.paint_png-sink-requires-clause-possible
paint_png-sink-requires-clause-possible g c =
    ap is_png_possible c.png_on_page-job.ensures
    ∙ png_possible_on c.args.shown.choice c.args.job.now c.args.shown.drawing.now.page c.requires.possible

boxes_same : {job job' : PngJob} (ss : List Segment) → job ≡ job' → png_boxes job ss ≡ png_boxes job' ss
boxes_same ss ej = cc

pub returns-in-Ok-clause-tests : goal.returns-in-Ok-clause-tests
returns-in-Ok-clause-tests g c =
    subst (λ (k : ℕ). g.G.Gauge.count c.paint_png-sink.new.gauge ≤ g.G.Gauge.count c.args.gauge.now + k)
    (boxes_same c.args.shown.contents.shapes.strokes.now c.png_on_page-job.ensures) c.paint_png-sink.ensures.tests

pub returns-in-Err-clause-tests : goal.returns-in-Err-clause-tests
returns-in-Err-clause-tests g c =
    subst (λ (k : ℕ). g.G.Gauge.count c.paint_png-sink.new.gauge ≤ g.G.Gauge.count c.args.gauge.now + k)
    (boxes_same c.args.shown.contents.shapes.strokes.now c.png_on_page-job.ensures) c.paint_png-sink.ensures.tests
