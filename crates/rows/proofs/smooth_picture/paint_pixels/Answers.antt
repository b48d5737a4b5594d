use Rattle.std.proofs.Common.{ℕ, ◌+◌, ◌≤◌, subst, sym, ◌∙◌}
use Rattle.std.proofs.lemmas.List.FromFn.{length-map-range_with_len}
use Rattle.plot_page.specs.Resolutions.{columns_of}
use Rattle.smoothing.specs.Smoothings.{smoothed}
use Rattle.areas.specs.Views.{shapes_in}
use Rattle.rows.specs.Layouts.{scene_pixels, smooth_row}
use Rattle.rows.specs.Pictures.{colours_at, finer}
use Rattle.rows.proofs.Joined.{whole_finer}
use Rattle.rows.proofs.PixelLayouts.{pixels_laid_out}
use Rattle.rows.proofs.Smoothed.{smoothed_threes}
use Rattle.rows.proofs.smooth_picture.paint_pixels.Goals as goal

pub returns-clause-paints : goal.returns-clause-paints
returns-clause-paints g c =
    let scene = c.args.scene in
    let n = c.args.ask.times in
    let ss = shapes_in scene.shapes in
    let reaches = g.G.Gauge.reaches c.args.gauge.now in
    let made = c.header_of-header.ensures in
    let wide = λ (row : ℕ). made.header.columns ∙ sym (length-map-range_with_len (smoothed n (colours_at reaches scene.pens ss scene.page (finer n scene.dots)) row) 0 (columns_of scene.page scene.dots)) in
    c.encode.ensures.paints (smooth_row n scene reaches) (λ row lt.
    pixels_laid_out c.header_of-header.result c.args.ask.layout (scene_pixels n scene reaches row) made.layout (wide row) c.requires.ask.colours (c.requires.pixels row lt) (smoothed_threes n reaches scene.pens ss scene.page scene.dots row))

pub returns-clause-tests : goal.returns-clause-tests
returns-clause-tests g c =
    let scene = c.args.scene in
    subst (λ (k : ℕ). g.G.Gauge.count c.encode.new.gauge ≤ g.G.Gauge.count c.args.gauge.now + k)
    (whole_finer c.args.ask.times scene.pens scene.shapes.strokes.now scene.page scene.dots 0) c.encode.ensures.tests
