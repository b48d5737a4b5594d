use Rattle.std.proofs.Common.{◌≡◌, ◌≤◌, ◌+◌, ◌-◌, ℕ, length, min, ap, subst, ◌∙◌}
use Rattle.plot_page.specs.Segments.{Segment}
use Rattle.plot_page.specs.Resolutions.{columns_of}
use Rattle.stroke_raster.specs.Boxes.{selected, boxes, in_box}
use Rattle.stroke_raster.specs.Rows.{marked_in_rows, rows_shown}
use Rattle.stroke_raster.specs.Tests.{MOST_TESTS}
use Rattle.stroke_raster.specs.Painting.{Painting, painted_rows, rows_next}
use Rattle.stroke_raster.specs.Scenes.{scene_test}
use Rattle.stroke_raster.specs.ShownShapes.{rows_at}
use Rattle.stroke_raster.proofs.painter.BandPainter.advance.Goals as goal

pub returns-clause-rows : goal.returns-clause-rows
returns-clause-rows g c = λ _.
    let p = c.self.inside in
    let reaches = g.G.Gauge.reaches c.args.gauge.now in
    let n = length p.scene.strokes.now in
    let count : c.min-count.result ≡ min p.scene.band_rows (p.end - p.next) = c.min-count.ensures in
    let columns : g.C.Canvas.width c.paint_band.new.canvas ≡ columns_of p.scene.page p.scene.dots = c.paint_band.ensures.width ∙ c.self.invariant.width_is in
    let law = rw (c.paint_band.ensures.height, columns) at (c.lends_what_it_shows.ensures (scene_test (g.G.Gauge.reaches c.args.gauge.now) p.scene) (length p.scene.strokes.now) p.next) in
    let P : Painting → Type 0 = λ q. g.C.Canvas.lent c.paint_band.new.canvas c.min-count.result
    ≡ g.C.Canvas.lends (painted_rows (g.G.Gauge.reaches c.args.gauge.now) q q.next (rows_next q)) in
    let Q : ℕ → Type 0 = λ k. g.C.Canvas.lent c.paint_band.new.canvas c.min-count.result
    ≡ g.C.Canvas.lends (rows_at (scene_test (g.G.Gauge.reaches c.args.gauge.now) p.scene) (length p.scene.strokes.now) (columns_of p.scene.page p.scene.dots) p.next k) in
    subst P c.self.view_is (subst Q count (law c.paint_band.ensures.pixels))

pub returns-clause-least : goal.returns-clause-least
returns-clause-least g c = λ _.
    let p = c.self.inside in
    let count : c.min-count.result ≡ min p.scene.band_rows (p.end - p.next) = c.min-count.ensures in
    let P : Painting → Type 0 = λ q. min (g.G.Gauge.count c.args.gauge.now + marked_in_rows (rows_shown (λ (s : Segment). g.G.Gauge.reaches c.args.gauge.now s q.page q.dots) q.pens q.strokes (columns_of q.page q.dots) q.next (rows_next q))) MOST_TESTS ≤ g.G.Gauge.count c.paint_band.new.gauge in
    let Q : ℕ → Type 0 = λ n. min (g.G.Gauge.count c.args.gauge.now + marked_in_rows (rows_shown (λ (s : Segment). g.G.Gauge.reaches c.args.gauge.now s p.scene.page p.scene.dots) p.scene.pens p.scene.strokes.now (columns_of p.scene.page p.scene.dots) p.next n)) MOST_TESTS ≤ g.G.Gauge.count c.paint_band.new.gauge in
    subst P c.self.view_is (subst Q count c.paint_band.ensures.least)

pub returns-clause-most : goal.returns-clause-most
returns-clause-most g c = λ _.
    let p = c.self.inside in
    let count : c.min-count.result ≡ min p.scene.band_rows (p.end - p.next) = c.min-count.ensures in
    let P : Painting → Type 0 = λ q. g.G.Gauge.count c.paint_band.new.gauge ≤ g.G.Gauge.count c.args.gauge.now + boxes (λ (s : Segment). in_box s q.page q.dots) (selected q.pens q.strokes) q.next (rows_next q) (columns_of q.page q.dots) in
    let Q : ℕ → Type 0 = λ n. g.G.Gauge.count c.paint_band.new.gauge ≤ g.G.Gauge.count c.args.gauge.now + boxes (λ (s : Segment). in_box s p.scene.page p.scene.dots) (selected p.scene.pens p.scene.strokes.now) p.next n (columns_of p.scene.page p.scene.dots) in
    subst P c.self.view_is (subst Q count c.paint_band.ensures.most)
