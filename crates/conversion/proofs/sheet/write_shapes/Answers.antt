use Rattle.std.proofs.Common.{◌≡◌, ℕ, ◌≤◌, ◌+◌, ◌∙◌, List, Option, ap₂, subst}
use Rattle.plot_page.specs.Segments.{Segment}
use Rattle.picture_job.specs.declared.job.Job.{Job}
use Rattle.picture_job.specs.declared.smoothing.Smoothing.{Smoothing}
use Rattle.rows.specs.Boxes.{strip_boxes}
use Rattle.rows.specs.Pictures.{is_possible}
use Rattle.conversion.proofs.Drawn.{possible_on}
use Rattle.conversion.proofs.sheet.write_shapes.Goals as goal

pub paint-requires-clause-possible : goal.paint-requires-clause-possible
paint-requires-clause-possible g c =
    ap₂ (λ (t : Smoothing) (job : Job). is_possible t.times job) c.smoothing_on.ensures c.on_page-job.ensures
    ∙ possible_on c.args.shown.choice c.args.rows.smoothing c.args.job.now c.args.shown.drawing.now.page c.requires.possible

boxes_same : {t t' : Smoothing} {job job' : Job} (most : Option ℕ) (ss : List Segment) → t ≡ t' → job ≡ job' → strip_boxes t.times most job ss ≡ strip_boxes t'.times most job' ss
boxes_same most ss et ej = cc

pub returns-in-Err-clause-tests : goal.returns-in-Err-clause-tests
returns-in-Err-clause-tests g c =
    subst (λ (k : ℕ). g.G.Gauge.count c.paint.new.gauge ≤ g.G.Gauge.count c.args.gauge.now + k)
    (boxes_same c.args.rows.most_rows c.args.shown.contents.shapes.strokes.now c.smoothing_on.ensures c.on_page-job.ensures) c.paint.ensures.tests

pub returns-clause-tests : goal.returns-clause-tests
returns-clause-tests g c =
    subst (λ (k : ℕ). g.G.Gauge.count c.paint.new.gauge ≤ g.G.Gauge.count c.args.gauge.now + k)
    (boxes_same c.args.rows.most_rows c.args.shown.contents.shapes.strokes.now c.smoothing_on.ensures c.on_page-job.ensures) c.paint.ensures.tests
