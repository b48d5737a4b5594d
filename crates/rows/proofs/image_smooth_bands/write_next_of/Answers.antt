use Rattle.std.proofs.Common.{◌≡◌, ◌<◌, ◌≤◌, ◌+◌, ℕ, List, sym, ap, subst, ◌∙◌, arith}
use Rattle.page_images.specs.Views.{images_in}
use Rattle.smoothing.specs.Rows.{times_of, width_of}
use Rattle.stroke_raster.specs.Bands.{first_of, rows_of_band}
use Rattle.png.specs.declared.header.Layout.TheVariants.{Rgb}
use Rattle.rows.specs.ImageSmoothing.{IsOver}
use Rattle.rows.specs.Inks.{image_inks_held}
use Rattle.rows.specs.PixelRows.{layout_bytes}
use Rattle.rows.specs.Progress.{SmoothPainting, smoothed_image_text, tests_left, WritesRows}
use Rattle.rows.proofs.ImageSmoothed.{image_band_pixels, image_pixels_same}
use Rattle.rows.proofs.Potentials.{tests_after}
use Rattle.rows.proofs.image_smooth_bands.write_next_of.Goals as goal

pub returns-in-Some-clause-writes : goal.returns-in-Some-clause-writes
returns-in-Some-clause-writes g c =
    let inside = c.bands.inside in
    let p = inside.painter in
    let s = c.args.smoother.now in
    let at = inside.next in
    let count = c.min-count.result in
    let images = images_in s.sheet.images in
    let it : SmoothPainting = record { painting = p; times = inside.times; layout = inside.smoother.layout; columns = width_of inside.smoother.pixels; rows = inside.rows; next = at; end = inside.end; height = inside.height } in
    let v : it ≡ c.args.bands.now = c.bands.view_is in
    let over : IsOver it s = subst (λ (z : SmoothPainting). IsOver z s) (sym v) c.requires.over in
    let left : at < inside.end = subst (λ (z : SmoothPainting). z.next < z.end) (sym v) c.requires.left in
    let reaches = g.G.Gauge.reaches c.args.gauge.now in
    let inv = c.bands.invariant in
    let text : ℕ → List ℕ = smoothed_image_text (record { smooth = it; images = images }) reaches in
    let made = λ (k : ℕ) (lt : k < count). sym
    (image_pixels_same images (times_of s.pixels) inside.times (image_inks_held s.inks) _ s.sheet.page p.page s.sheet.dots p.dots (first_of c.in-Some.band) p.next (rows_of_band c.in-Some.band) _ (width_of s.pixels) (width_of inside.smoother.pixels) k
    over.times over.inks over.page over.dots c.in-Some.ensures.first c.in-Some.ensures.rows over.width
    ∙ ap (layout_bytes Rgb) (image_band_pixels reaches p images inside.times inside.end at inside.height k (width_of inside.smoother.pixels) inv.3 left (omega (arith, lt, c.min-count.ensures)))) in
    let wrote = c.write_smoothed.ensures.rows text made in
    subst (λ (z : SmoothPainting). WritesRows (smoothed_image_text (record { smooth = z; images = images }) reaches) c.args.first z.next (at + count) c.args.done (g.K.Sink.state c.args.sink.now) (g.K.Sink.state c.write_smoothed.new.sink) c.write_smoothed.result) v wrote

pub returns-in-Some-clause-tests : goal.returns-in-Some-clause-tests
returns-in-Some-clause-tests g c =
    let q = c.next_band.follows.lender-at-none in
    let p = c.bands.inside.painter in
    subst (λ (z : SmoothPainting). g.G.Gauge.count c.next_band.new.gauge + tests_left q ≤ g.G.Gauge.count c.args.gauge.now + tests_left z.painting) c.bands.view_is
    (tests_after p q _ _ c.next_band.follows.holds-at-none c.in-Some.ensures.most)
