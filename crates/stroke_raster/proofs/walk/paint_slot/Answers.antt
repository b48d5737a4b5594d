use Rattle.std.proofs.Common.{Some, true, List, get_or, ◌≡◌, ◌≤◌, ◌+◌, ◌-◌, ℕ, cond, min, ap, ap₂, sym, subst, ◌∙◌, arith}
use Rattle.plot_page.specs.Segments.{Segment}
use Rattle.stroke_raster.specs.Boxes.{box_pixels, in_box}
use Rattle.polygons.specs.declared.lines.Rule.{Rule}
use Rattle.areas.specs.Shapes.{Shape}
use Rattle.stroke_raster.specs.ShownShapes.{is_filled, reaches_with, shape_of}
use Rattle.stroke_raster.specs.Tests.{MOST_TESTS, reached_pixels}
use Rattle.stroke_raster.proofs.FillRows.{filled_rows}
use Rattle.stroke_raster.proofs.Filled.{painted_both}
use Rattle.stroke_raster.proofs.Slots.{slot_is}
use Rattle.stroke_raster.proofs.walk.paint_slot.Goals as goal

abbrev shape_with : List Segment → Rule → Shape
shape_with edges rule = record { strokes = edges; rule = Some rule }

pub returns-in_default-clause-least : goal.returns-in_default-clause-least
returns-in_default-clause-least g c =
    let t = slot_is c.args.scene.now.strokes.now (c.args.slot - 1) c.index-scene-slot.result (omega (arith, c.requires.slot_in, c.requires.some)) c.index-scene-slot.is in
    subst (λ (s : Segment). min (g.G.Gauge.count c.args.gauge.now + reached_pixels (g.G.Gauge.reaches c.args.gauge.now s c.args.scene.now.page c.args.scene.now.dots) c.args.first (g.C.Canvas.height c.args.canvas.now) 0 (g.C.Canvas.width c.args.canvas.now)) MOST_TESTS ≤ g.G.Gauge.count c.paint-bottom.new.gauge)
    (sym c.index-scene-slot.is ∙ sym t) c.paint-bottom.ensures.least

pub returns-in_default-clause-most : goal.returns-in_default-clause-most
returns-in_default-clause-most g c =
    let t = slot_is c.args.scene.now.strokes.now (c.args.slot - 1) c.index-scene-slot.result (omega (arith, c.requires.slot_in, c.requires.some)) c.index-scene-slot.is in
    subst (λ (s : Segment). g.G.Gauge.count c.paint-bottom.new.gauge ≤ g.G.Gauge.count c.args.gauge.now + box_pixels (λ s. in_box s c.args.scene.now.page c.args.scene.now.dots) s c.args.first (g.C.Canvas.height c.args.canvas.now) (g.C.Canvas.width c.args.canvas.now))
    (sym c.index-scene-slot.is ∙ sym t) c.paint-bottom.ensures.most

pub fill_area-requires-clause-held : goal.fill_area-requires-clause-held
fill_area-requires-clause-held g c = λ row k u h.
    let filled = subst (λ (t : Segment). is_filled t.window (record { strokes = c.edges_in.result.now; rule = Some c.in-Some.area.rule }) c.args.scene.now.page c.args.scene.now.dots row k ≡ true) c.stroke.view_is h in
    let x = filled_rows (get_or c.args.scene.now.strokes.now (c.args.slot - 1) c.index-scene-slot.result) (record { strokes = c.edges_in.result.now; rule = Some c.in-Some.area.rule }) c.args.scene.now.page c.args.scene.now.dots row k u filled in
    (omega (arith, x.0, c.rows_of_edges-rows.ensures.low), omega (arith, x.1, c.rows_of_edges-rows.ensures.end))

pub returns-clause-least : goal.returns-clause-least
returns-clause-least g c =
    let t = slot_is c.args.scene.now.strokes.now (c.args.slot - 1) c.index-scene-slot.result (omega (arith, c.requires.slot_in, c.requires.some)) c.index-scene-slot.is in
    subst (λ (s : Segment). min (g.G.Gauge.count c.args.gauge.now + reached_pixels (g.G.Gauge.reaches c.args.gauge.now s c.args.scene.now.page c.args.scene.now.dots) c.args.first (g.C.Canvas.height c.args.canvas.now) 0 (g.C.Canvas.width c.args.canvas.now)) MOST_TESTS ≤ g.G.Gauge.count c.paint-bottom.new.gauge)
    (sym c.index-scene-slot.is ∙ sym t) c.paint-bottom.ensures.least

pub returns-clause-most : goal.returns-clause-most
returns-clause-most g c =
    let t = slot_is c.args.scene.now.strokes.now (c.args.slot - 1) c.index-scene-slot.result (omega (arith, c.requires.slot_in, c.requires.some)) c.index-scene-slot.is in
    subst (λ (s : Segment). g.G.Gauge.count c.paint-bottom.new.gauge ≤ g.G.Gauge.count c.args.gauge.now + box_pixels (λ s. in_box s c.args.scene.now.page c.args.scene.now.dots) s c.args.first (g.C.Canvas.height c.args.canvas.now) (g.C.Canvas.width c.args.canvas.now))
    (sym c.index-scene-slot.is ∙ sym t) c.paint-bottom.ensures.most

pub returns-clause-pixels : goal.returns-clause-pixels
returns-clause-pixels g c = λ r k u v.
    let strokes = c.args.scene.now.strokes.now in
    let page = c.args.scene.now.page in
    let dots = c.args.scene.now.dots in
    let row = c.args.first + r in
    let mark = g.C.Canvas.mark c.args.slot in
    let old = g.C.Canvas.pixel c.args.canvas.now r k in
    let reaches = g.G.Gauge.reaches c.args.gauge.now in
    let t = slot_is strokes (c.args.slot - 1) c.index-scene-slot.result (omega (arith, c.requires.slot_in, c.requires.some)) c.index-scene-slot.is in
    let it = sym c.index-scene-slot.is ∙ sym t in
    let shape : Shape = record { strokes = c.edges_in.result.now; rule = Some c.in-Some.area.rule } in
    let is = ap (λ (es : List Segment). shape_with es c.in-Some.area.rule) c.edges_in.ensures
    ∙ sym (ap (shape_of strokes) (sym c.ending_at.ensures ∙ c.in-Some.is)) in
    c.fill_area.ensures.pixels r k (omega (arith, u, c.paint-bottom.ensures.height)) (omega (arith, v, c.paint-bottom.ensures.width))
    ∙ ap (λ (s : Segment). cond (is_filled s.window shape page dots row k) mark (g.C.Canvas.pixel c.paint-bottom.new.self r k)) c.stroke.view_is
    ∙ ap (λ (x : ℕ). cond (is_filled (get_or strokes (c.args.slot - 1) c.index-scene-slot.result).window shape page dots row k) mark x) (c.paint-bottom.ensures.pixels r k u v)
    ∙ painted_both (reaches (get_or strokes (c.args.slot - 1) c.index-scene-slot.result) page dots row k) (is_filled (get_or strokes (c.args.slot - 1) c.index-scene-slot.result).window shape page dots row k) mark old
    ∙ ap₂ (λ (s : Segment) (a : Shape). cond (reaches_with reaches s a page dots row k) mark old) it is
