use Rattle.std.proofs.Common.{◌≡◌, ◌≤◌, ◌+◌, ◌*◌, ℕ, List, Bool, true, false, cond, sym, subst, ◌∙◌}
use Rattle.areas.specs.Views.{shapes_in}
use Rattle.picture_out.specs.declared.form.Form.TheVariants.{Ppm}
use Rattle.rows.specs.Boxes.{boxes_from, finer_boxes}
use Rattle.rows.specs.Documents.{HasPaintedPng, picture_with}
use Rattle.rows.specs.Pictures.{is_smoothed}
use Rattle.rows.proofs.Smoothed.{smoothed_rows, unsmoothed}
use Rattle.rows.proofs.png_picture.paint_shapes.Goals as goal

pub returns-then-is_smoothed-clause-paints : goal.returns-then-is_smoothed-clause-paints
returns-then-is_smoothed-clause-paints g c =
    let job = c.args.job.now in
    let n = job.smoothing.times in
    let reaches = g.G.Gauge.reaches c.args.gauge.now in
    let some : is_smoothed n Ppm ≡ true = sym c.is_smoothed.ensures ∙ c.if-is_smoothed.true in
    subst (λ (row : ℕ → List ℕ). HasPaintedPng (picture_with job.page job.dots row) (g.K.Sink.state c.args.sink) (g.K.Sink.state c.paint_smoothed.result.0) c.paint_smoothed.result.1)
    (smoothed_rows n Ppm reaches job.pens (shapes_in c.args.shapes) job.page job.dots some) c.paint_smoothed.ensures.paints

pub returns-then-is_smoothed-clause-tests : goal.returns-then-is_smoothed-clause-tests
returns-then-is_smoothed-clause-tests g c =
    let job = c.args.job.now in
    let n = job.smoothing.times in
    let ss = c.args.shapes.strokes.now in
    let some : is_smoothed n Ppm ≡ true = sym c.is_smoothed.ensures ∙ c.if-is_smoothed.true in
    subst (λ (b : Bool). g.G.Gauge.count c.paint_smoothed.new.gauge ≤ g.G.Gauge.count c.args.gauge.now + cond b (2 * finer_boxes n job.pens ss job.page job.dots 0) (boxes_from job.pens ss job.page job.dots 0))
    (sym some) c.paint_smoothed.ensures.tests

pub returns-clause-paints : goal.returns-clause-paints
returns-clause-paints g c =
    let job = c.args.job.now in
    let n = job.smoothing.times in
    let reaches = g.G.Gauge.reaches c.args.gauge.now in
    let none : is_smoothed n Ppm ≡ false = sym c.is_smoothed.ensures ∙ c.if-is_smoothed.false in
    subst (λ (row : ℕ → List ℕ). HasPaintedPng (picture_with job.page job.dots row) (g.K.Sink.state c.args.sink) (g.K.Sink.state c.paint_plain.result.0) c.paint_plain.result.1)
    (unsmoothed n Ppm reaches job.pens (shapes_in c.args.shapes) job.page job.dots none) c.paint_plain.ensures.paints

pub returns-clause-tests : goal.returns-clause-tests
returns-clause-tests g c =
    let job = c.args.job.now in
    let n = job.smoothing.times in
    let ss = c.args.shapes.strokes.now in
    let none : is_smoothed n Ppm ≡ false = sym c.is_smoothed.ensures ∙ c.if-is_smoothed.false in
    subst (λ (b : Bool). g.G.Gauge.count c.paint_plain.new.gauge ≤ g.G.Gauge.count c.args.gauge.now + cond b (2 * finer_boxes n job.pens ss job.page job.dots 0) (boxes_from job.pens ss job.page job.dots 0))
    (sym none) c.paint_plain.ensures.tests
