use Rattle.std.proofs.Common.{◌*◌, ℕ, length, ap, sym, ◌∙◌}
use Rattle.std.proofs.lemmas.List.FromFn.{length-map-range_with_len}
use Rattle.plot_page.specs.Resolutions.{columns_of}
use Rattle.areas.specs.Views.{shapes_in}
use Rattle.stroke_raster.specs.ShownShapes.{row_of_shapes, shown_at, shows_at}
use Rattle.picture_out.proofs.Sizes.{coloured_size}
use Rattle.rows.specs.Layouts.{plain_row}
use Rattle.rows.specs.Pictures.{inks_of}
use Rattle.rows.proofs.Numbered.{row_coloured}
use Rattle.rows.proofs.png_picture.paint_colours.Goals as goal

pub returns-clause-paints : goal.returns-clause-paints
returns-clause-paints g c =
    let scene = c.args.scene in
    let ss = shapes_in scene.shapes in
    let reaches = g.G.Gauge.reaches c.args.gauge.now in
    let columns = columns_of scene.page scene.dots in
    let shows = shows_at reaches scene.pens ss.strokes ss.areas scene.page scene.dots in
    let made = c.header_of-header.ensures in
    c.encode.ensures.paints (plain_row scene reaches) (λ row lt. row_coloured c.header_of-header.result _ made.layout
    (coloured_size (inks_of ss.strokes) (row_of_shapes reaches scene.pens ss.strokes ss.areas scene.page scene.dots row) ∙ ap (λ (n : ℕ). 3 * n) (length-map-range_with_len (λ (column : ℕ). shown_at shows (length ss.strokes) row column) 0 columns ∙ sym made.header.columns)))
