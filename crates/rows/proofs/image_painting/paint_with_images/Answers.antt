use Rattle.std.proofs.Common.{◌≡◌, ◌≤◌, ◌+◌, ℕ, List, true, false, ap, sym, subst, ◌∙◌}
use Rattle.png.specs.declared.header.Layout.TheVariants.{Rgb}
use Rattle.areas.specs.Views.{shapes_in}
use Rattle.page_images.specs.Views.{images_in}
use Rattle.plot_page.specs.Resolutions.{rows_of}
use Rattle.rows.specs.Boxes.{finer_between}
use Rattle.rows.specs.Contents.{contents_in}
use Rattle.rows.specs.ImagePictures.{image_pixels}
use Rattle.rows.specs.PixelRows.{layout_bytes}
use Rattle.rows.specs.Pictures.{end_of, is_smoothed}
use Rattle.rows.proofs.ImagePictures.{rgb_images, row_with_some, smoothed_images, some_images, unsmoothed_images}
use Rattle.rows.proofs.Smoothed.{smoothed_boxes}
use Rattle.rows.proofs.image_painting.paint_with_images.Goals as goal

pub returns-then-is_smoothed-clause-paints : goal.returns-then-is_smoothed-clause-paints
returns-then-is_smoothed-clause-paints g c =
    let job = c.args.job.now in
    let n = c.args.rows.smoothing.times in
    let ss = shapes_in c.args.contents.shapes in
    let images = images_in c.args.contents.images in
    let reaches = g.G.Gauge.reaches c.args.gauge.now in
    let some : is_smoothed n job.form ≡ true = sym c.is_smoothed.ensures ∙ c.if-is_smoothed.true in
    let times = ap {B = ℕ → List ℕ} (λ (t : ℕ). λ (row : ℕ). layout_bytes Rgb (image_pixels t reaches job.pens ss images job.page job.dots row)) c.times.ensures in
    c.paint_by.ensures.paints n (contents_in c.args.contents)
    (times ∙ rgb_images n reaches job.pens ss images job.page job.dots ∙ smoothed_images n job.form reaches job.pens ss images job.page job.dots some
    ∙ row_with_some images n job.form reaches job.pens ss job.page job.dots (some_images c.args.contents.images c.requires.some))

pub returns-then-is_smoothed-clause-tests : goal.returns-then-is_smoothed-clause-tests
returns-then-is_smoothed-clause-tests g c =
    let job = c.args.job.now in
    let n = c.args.rows.smoothing.times in
    let strokes = c.args.contents.shapes.strokes.now in
    let some : is_smoothed n job.form ≡ true = sym c.is_smoothed.ensures ∙ c.if-is_smoothed.true in
    let end = end_of c.args.rows.most_rows job.first_row (rows_of job.page job.dots) in
    let times = ap (λ (t : ℕ). finer_between t job.pens strokes job.page job.dots job.first_row end) c.times.ensures in
    subst (λ (k : ℕ). g.G.Gauge.count c.paint_by.new.gauge ≤ g.G.Gauge.count c.args.gauge.now + k) (times ∙ smoothed_boxes n c.args.rows.most_rows job strokes some) c.paint_by.ensures.tests

pub returns-clause-paints : goal.returns-clause-paints
returns-clause-paints g c =
    let job = c.args.job.now in
    let n = c.args.rows.smoothing.times in
    let ss = shapes_in c.args.contents.shapes in
    let images = images_in c.args.contents.images in
    let reaches = g.G.Gauge.reaches c.args.gauge.now in
    let none : is_smoothed n job.form ≡ false = sym c.is_smoothed.ensures ∙ c.if-is_smoothed.false in
    c.paint_by-2.ensures.paints n (contents_in c.args.contents)
    (unsmoothed_images n job.form reaches job.pens ss images job.page job.dots none
    ∙ row_with_some images n job.form reaches job.pens ss job.page job.dots (some_images c.args.contents.images c.requires.some))
