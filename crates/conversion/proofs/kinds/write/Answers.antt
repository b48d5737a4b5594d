use Rattle.std.proofs.Common.{◌≤◌, ◌+◌, subst, sym}
use Rattle.rows.specs.Contents.{ContentList}
use Rattle.picture_job.specs.declared.picture.Picture.{Picture}
use Rattle.rows.specs.Boxes.{strip_boxes}
use Rattle.conversion.specs.PageJobs.{on_page, times_on}
use Rattle.conversion.specs.Kinds.{most_tests}
use Rattle.conversion.proofs.kinds.write.Goals as goal

pub returns-in-Rows-clause-tests : goal.returns-in-Rows-clause-tests
returns-in-Rows-clause-tests g c =
    let drawing = c.args.drawing.now in
    let choice = c.args.request.now.setup.choice in
    let before = g.G.Gauge.count c.args.gauge.now in
    let after = g.G.Gauge.count c.write_shapes-outcome.new.gauge in
    let tests = subst (λ (ss : ContentList). after ≤ before + strip_boxes (times_on choice drawing.page c.in-Rows.job c.in-Rows.rows.smoothing) c.in-Rows.rows.most_rows (on_page choice drawing.page c.in-Rows.job) ss.shapes.strokes) c.contents_on.ensures.contents c.write_shapes-outcome.ensures.tests in
    subst (λ (picture : Picture). after ≤ before + most_tests choice picture drawing c.args.sheet) (sym c.in-Rows.is) tests
