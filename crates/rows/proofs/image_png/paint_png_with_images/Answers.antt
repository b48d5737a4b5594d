use Rattle.std.proofs.Common.{◌≡◌, ◌≤◌, ◌+◌, ◌*◌, ℕ, List, Bool, true, false, cond, length, ap, sym, subst, ◌∙◌, arith}
use Rattle.std.specs.List.{flat_map}
use Rattle.std.proofs.lemmas.List.FromFn.{length-map-range_with_len}
use Rattle.plot_page.specs.Resolutions.{columns_of}
use Rattle.areas.specs.Views.{shapes_in}
use Rattle.page_images.specs.Views.{images_in}
use Rattle.stroke_raster.specs.ShownShapes.{row_of_shapes, shown_at, shows_at}
use Rattle.picture_out.specs.declared.form.Form.TheVariants.{Ppm}
use Rattle.picture_out.proofs.Sizes.{coloured_size}
use Rattle.png.specs.declared.header.Layout.TheVariants.{Rgb}
use Rattle.smoothing.specs.Smoothings.{smoothed}
use Rattle.rows.specs.Boxes.{boxes_from, finer_boxes}
use Rattle.rows.specs.Documents.{HasPaintedPng, picture_with}
use Rattle.rows.specs.ImageCells.{inks_with}
use Rattle.rows.specs.ImagePictures.{cells_with, image_colours, image_pixels, image_row}
use Rattle.rows.specs.Pictures.{finer, is_smoothed}
use Rattle.rows.proofs.ImageCells.{with_images_size}
use Rattle.rows.proofs.ImagePictures.{image_threes, row_with_some, smoothed_images, some_images, unsmoothed_images}
use Rattle.rows.proofs.Joined.{whole_finer}
use Rattle.rows.proofs.Numbered.{row_coloured}
use Rattle.rows.proofs.PixelLayouts.{pixels_laid_out}
use Rattle.rows.proofs.image_png.paint_png_with_images.Goals as goal

pub returns-then-is_smoothed-clause-paints : goal.returns-then-is_smoothed-clause-paints
returns-then-is_smoothed-clause-paints g c =
    let job = c.args.job.now in
    let n = job.smoothing.times in
    let t = c.times.result in
    let ss = shapes_in c.args.contents.shapes in
    let images = images_in c.args.contents.images in
    let reaches = g.G.Gauge.reaches c.args.gauge.now in
    let made = c.header_of-header.ensures in
    let some : is_smoothed n Ppm ≡ true = sym c.is_smoothed.ensures ∙ c.if-is_smoothed.true in
    let colours : ℕ → List ℕ = λ row. flat_map (λ (pixel : List ℕ). pixel) (image_pixels t reaches job.pens ss images job.page job.dots row) in
    let wide = λ (row : ℕ). made.header.columns ∙ sym (length-map-range_with_len (smoothed t (image_colours reaches job.pens ss images job.page (finer t job.dots)) row) 0 (columns_of job.page job.dots)) in
    let times = ap {B = ℕ → List ℕ} (λ (k : ℕ). λ (row : ℕ). flat_map (λ (pixel : List ℕ). pixel) (image_pixels k reaches job.pens ss images job.page job.dots row)) c.times.ensures in
    subst (λ (row : ℕ → List ℕ). HasPaintedPng (picture_with job.page job.dots row) (g.K.Sink.state c.args.sink) (g.K.Sink.state c.encode.result.0) c.encode.result.1)
    (times ∙ smoothed_images n Ppm reaches job.pens ss images job.page job.dots some ∙ row_with_some images n Ppm reaches job.pens ss job.page job.dots (some_images c.args.contents.images c.requires.some))
    (c.encode.ensures.paints colours (λ row lt.
    pixels_laid_out c.header_of-header.result Rgb (image_pixels t reaches job.pens ss images job.page job.dots row) made.layout (wide row) tt tt (image_threes t reaches job.pens ss images job.page job.dots row)))

pub returns-then-is_smoothed-clause-tests : goal.returns-then-is_smoothed-clause-tests
returns-then-is_smoothed-clause-tests g c =
    let job = c.args.job.now in
    let n = job.smoothing.times in
    let strokes = c.args.contents.shapes.strokes.now in
    let some : is_smoothed n Ppm ≡ true = sym c.is_smoothed.ensures ∙ c.if-is_smoothed.true in
    let whole = whole_finer c.times.result job.pens strokes job.page job.dots 0 in
    let times = ap (λ (t : ℕ). finer_boxes t job.pens strokes job.page job.dots 0) c.times.ensures in
    subst (λ (b : Bool). g.G.Gauge.count c.encode.new.gauge ≤ g.G.Gauge.count c.args.gauge.now + cond b (2 * finer_boxes n job.pens strokes job.page job.dots 0) (boxes_from job.pens strokes job.page job.dots 0))
    (sym some) (omega (arith, c.encode.ensures.tests, whole, times))

pub returns-clause-paints : goal.returns-clause-paints
returns-clause-paints g c =
    let job = c.args.job.now in
    let n = job.smoothing.times in
    let ss = shapes_in c.args.contents.shapes in
    let images = images_in c.args.contents.images in
    let reaches = g.G.Gauge.reaches c.args.gauge.now in
    let columns = columns_of job.page job.dots in
    let shows = shows_at reaches job.pens ss.strokes ss.areas job.page job.dots in
    let made = c.header_of-header.ensures in
    let none : is_smoothed n Ppm ≡ false = sym c.is_smoothed.ensures ∙ c.if-is_smoothed.false in
    let pens : ℕ → List ℕ = λ row. row_of_shapes reaches job.pens ss.strokes ss.areas job.page job.dots row in
    let size = λ (row : ℕ). coloured_size (inks_with ss.strokes) (cells_with reaches job.pens ss images job.page job.dots row)
    ∙ ap (λ (k : ℕ). 3 * k) (with_images_size images job.page job.dots row (pens row) ∙ length-map-range_with_len (λ (column : ℕ). shown_at shows (length ss.strokes) row column) 0 columns ∙ sym made.header.columns) in
    subst (λ (row : ℕ → List ℕ). HasPaintedPng (picture_with job.page job.dots row) (g.K.Sink.state c.args.sink) (g.K.Sink.state c.encode-2.result.0) c.encode-2.result.1)
    (unsmoothed_images n Ppm reaches job.pens ss images job.page job.dots none ∙ row_with_some images n Ppm reaches job.pens ss job.page job.dots (some_images c.args.contents.images c.requires.some))
    (c.encode-2.ensures.paints (λ row. image_row Ppm reaches job.pens ss images job.page job.dots row) (λ row lt. row_coloured c.header_of-header.result _ made.layout (size row)))

pub returns-clause-tests : goal.returns-clause-tests
returns-clause-tests g c =
    let job = c.args.job.now in
    let n = job.smoothing.times in
    let strokes = c.args.contents.shapes.strokes.now in
    let none : is_smoothed n Ppm ≡ false = sym c.is_smoothed.ensures ∙ c.if-is_smoothed.false in
    subst (λ (b : Bool). g.G.Gauge.count c.encode-2.new.gauge ≤ g.G.Gauge.count c.args.gauge.now + cond b (2 * finer_boxes n job.pens strokes job.page job.dots 0) (boxes_from job.pens strokes job.page job.dots 0))
    (sym none) c.encode-2.ensures.tests
