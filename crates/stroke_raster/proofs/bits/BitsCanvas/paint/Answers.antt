use Rattle.std.proofs.Common.{rules, ◌≡◌, ℕ, ◌+◌, min, arith}
use Rattle.plot_page.specs.Segments.{Segment}
use Rattle.stroke_raster.specs.Boxes.{in_box}
use Rattle.stroke_raster.proofs.BoxCounts.{box_part_in}
use Rattle.stroke_raster.proofs.Canvases.{held, part_pixels}
use Rattle.stroke_raster.proofs.ReachedRows.{none_has, part_has_all}
use Rattle.stroke_raster.proofs.Slots.{beside}
use Rattle.stroke_raster.proofs.Written.{whole}
use Rattle.stroke_raster.proofs.bits.BitsCanvas.paint.Goals as goal

pub returns-then-extent-clause-least : goal.returns-then-extent-clause-least
returns-then-extent-clause-least g c =
    let covers = λ (r k : ℕ). g.G.Gauge.reaches c.args.gauge.now c.args.stroke.now c.args.page.now c.args.dots r k in
    let n = none_has covers c.args.first c.args.self.now.rows c.args.self.now.columns (λ r k u v. beside _ _ (c.requires.boxed c.args.stroke.now c.args.page.now c.args.dots (c.args.first + r) k)
    (λ b. let x = c.extent_of-extent.ensures.column_in (c.args.first + r) k (omega (arith, v, c.requires.width)) b in absurd (omega (arith, x.0, x.1, c.if-extent.true)))) in
    rw n (omega arith)

pub returns-clause-pixels : goal.returns-clause-pixels
returns-clause-pixels g c =
    let covers = λ (r k : ℕ). g.G.Gauge.reaches c.args.gauge.now c.args.stroke.now c.args.page.now c.args.dots r k in
    let value = c.as_mut_slice-bytes.ensures.value in
    let one : min 1 c.args.position ≡ 1 = omega (arith, c.requires.counted) in
    let inked = rw value at c.ink_rows.ensures.bits in
    rw (whole c.ink_rows.new.bits _ c.args.self.now.bytes.len (search rules), one)
    (part_pixels covers _ _ c.extent_of-extent.result.columns c.args.self.now.columns c.args.self.now.bytes.items c.ink_rows.new.bits (search rules)
    (λ r k u v f. let b = c.requires.boxed c.args.stroke.now c.args.page.now c.args.dots (c.args.first + r) k f in
    let x = c.extent_of-extent.ensures.row_in (c.args.first + r) k (omega (arith, u, c.requires.rows_in)) b in
    let y = c.extent_of-extent.ensures.column_in (c.args.first + r) k (omega (arith, v, c.requires.width)) b in
    (held _ (c.args.first + r) (omega (arith, x.0, c.min-low.ensures, c.max.ensures)) (omega (arith, x.1, u, c.max-end.ensures, c.min.ensures)), held _ k y.0 y.1))
    inked)

pub returns-clause-least : goal.returns-clause-least
returns-clause-least g c =
    let covers = λ (r k : ℕ). g.G.Gauge.reaches c.args.gauge.now c.args.stroke.now c.args.page.now c.args.dots r k in
    let h = part_has_all covers c.args.first c.min-low.result c.max-end.result c.extent_of-extent.result.columns.low c.extent_of-extent.result.columns.end c.args.self.now.columns c.args.self.now.rows
    (omega (arith, c.min-low.ensures, c.max-end.ensures, c.max.ensures)) (omega (arith, c.min-low.ensures)) (omega (arith, c.max-end.ensures, c.min.ensures))
    (λ r k u v f. let b = c.requires.boxed c.args.stroke.now c.args.page.now c.args.dots (c.args.first + r) k f in
    let x = c.extent_of-extent.ensures.row_in (c.args.first + r) k (omega (arith, u, c.requires.rows_in)) b in
    let y = c.extent_of-extent.ensures.column_in (c.args.first + r) k (omega (arith, v, c.requires.width)) b in
    (omega (arith, x.0, c.min-low.ensures, c.max.ensures), (omega (arith, x.1, u, c.max-end.ensures, c.min.ensures), y))) in
    omega (arith, h, c.ink_rows.ensures.least)

pub returns-clause-most : goal.returns-clause-most
returns-clause-most g c =
    let b = box_part_in (λ (s : Segment). in_box s c.args.page.now c.args.dots) c.args.stroke.now c.args.first c.args.self.now.rows c.min-low.result c.max-end.result c.args.self.now.columns c.extent_of-extent.result.columns.low c.extent_of-extent.result.columns.end
    (omega (arith, c.min-low.ensures, c.max-end.ensures, c.max.ensures)) (omega (arith, c.min-low.ensures)) (omega (arith, c.max-end.ensures, c.min.ensures))
    (λ row k x y. c.extent_of-extent.ensures.full row k (omega (arith, x, y, c.min-low.ensures, c.max.ensures)) (omega (arith, x, y, c.min-low.ensures, c.max-end.ensures, c.min.ensures, c.max.ensures)))
    (omega (arith, c.extent_of-extent.ensures.columns, c.requires.width)) in
    omega (arith, b, c.ink_rows.ensures.most)
