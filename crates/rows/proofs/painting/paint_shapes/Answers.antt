use Rattle.std.proofs.Common.{◌≡◌, ◌≤◌, ◌+◌, ℕ, List, true, false, ap, sym, subst, ◌∙◌}
use Rattle.picture_out.specs.declared.form.Form.{Form}
use Rattle.picture_out.specs.declared.form.Form.TheVariants.{Pbm, Pcl}
use Rattle.png.specs.declared.header.Layout.TheVariants.{Rgb}
use Rattle.areas.specs.Views.{shapes_in}
use Rattle.plot_page.specs.Resolutions.{rows_of}
use Rattle.rows.specs.Boxes.{finer_between}
use Rattle.rows.specs.Contents.{plain}
use Rattle.rows.specs.PixelRows.{layout_bytes}
use Rattle.rows.specs.Pictures.{end_of, is_smoothed, row_of_list, smoothed_pixels}
use Rattle.rows.proofs.Smoothed.{rgb_rows, smoothed_boxes, smoothed_rows, unsmoothed}
use Rattle.rows.proofs.painting.paint_shapes.Goals as goal

pub returns-then-is_smoothed-clause-paints : goal.returns-then-is_smoothed-clause-paints
returns-then-is_smoothed-clause-paints g c =
    let job = c.args.job.now in
    let n = c.args.rows.smoothing.times in
    let ss = shapes_in c.args.shapes in
    let reaches = g.G.Gauge.reaches c.args.gauge.now in
    let some : is_smoothed n job.form ≡ true = sym c.is_smoothed.ensures ∙ c.if-is_smoothed.true in
    let times = ap {B = ℕ → List ℕ} (λ (t : ℕ). λ (row : ℕ). layout_bytes Rgb (smoothed_pixels t reaches job.pens ss job.page job.dots row)) c.times.ensures in
    c.paint_by.ensures.paints n (plain ss) (times ∙ rgb_rows n reaches job.pens ss job.page job.dots ∙ smoothed_rows n job.form reaches job.pens ss job.page job.dots some)

pub returns-then-is_smoothed-clause-tests : goal.returns-then-is_smoothed-clause-tests
returns-then-is_smoothed-clause-tests g c =
    let job = c.args.job.now in
    let n = c.args.rows.smoothing.times in
    let some : is_smoothed n job.form ≡ true = sym c.is_smoothed.ensures ∙ c.if-is_smoothed.true in
    let end = end_of c.args.rows.most_rows job.first_row (rows_of job.page job.dots) in
    let times = ap (λ (t : ℕ). finer_between t job.pens c.args.shapes.strokes.now job.page job.dots job.first_row end) c.times.ensures in
    subst (λ (k : ℕ). g.G.Gauge.count c.paint_by.new.gauge ≤ g.G.Gauge.count c.args.gauge.now + k) (times ∙ smoothed_boxes n c.args.rows.most_rows job c.args.shapes.strokes.now some) c.paint_by.ensures.tests

pub returns-in-Pbm-clause-paints : goal.returns-in-Pbm-clause-paints
returns-in-Pbm-clause-paints g c =
    let job = c.args.job.now in
    let n = c.args.rows.smoothing.times in
    let ss = shapes_in c.args.shapes in
    let reaches = g.G.Gauge.reaches c.args.gauge.now in
    let none : is_smoothed n job.form ≡ false = sym c.is_smoothed.ensures ∙ c.if-is_smoothed.false in
    let form : Pbm ≡ job.form = sym c.in-Pbm.is in
    c.paint_by-in-Pbm.ensures.paints n (plain ss) (ap {B = ℕ → List ℕ} (λ (f : Form). row_of_list f reaches job.pens ss job.page job.dots) form ∙ unsmoothed n job.form reaches job.pens ss job.page job.dots none)

pub returns-in-Pcl-clause-paints : goal.returns-in-Pcl-clause-paints
returns-in-Pcl-clause-paints g c =
    let job = c.args.job.now in
    let n = c.args.rows.smoothing.times in
    let ss = shapes_in c.args.shapes in
    let reaches = g.G.Gauge.reaches c.args.gauge.now in
    let none : is_smoothed n job.form ≡ false = sym c.is_smoothed.ensures ∙ c.if-is_smoothed.false in
    let form : Pcl ≡ job.form = sym c.in-Pcl.is in
    c.paint_by-in-Pcl.ensures.paints n (plain ss) (ap {B = ℕ → List ℕ} (λ (f : Form). row_of_list f reaches job.pens ss job.page job.dots) form ∙ unsmoothed n job.form reaches job.pens ss job.page job.dots none)

pub returns-in-Marks-clause-paints : goal.returns-in-Marks-clause-paints
returns-in-Marks-clause-paints g c =
    let job = c.args.job.now in
    let n = c.args.rows.smoothing.times in
    let ss = shapes_in c.args.shapes in
    let reaches = g.G.Gauge.reaches c.args.gauge.now in
    let none : is_smoothed n job.form ≡ false = sym c.is_smoothed.ensures ∙ c.if-is_smoothed.false in
    c.paint_by-in-Marks.ensures.paints n (plain ss) (unsmoothed n job.form reaches job.pens ss job.page job.dots none)
