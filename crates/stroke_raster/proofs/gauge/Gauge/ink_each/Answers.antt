use Rattle.std.proofs.Common.{◌≡◌, ℕ, ◌+◌, ◌-◌, ◌*◌, length, refl, ◌∙◌, arith}
use Rattle.stroke_raster.specs.Inks.{IsReached}
use Rattle.stroke_raster.proofs.Middle.{mid_length}
use Rattle.stroke_raster.proofs.Parts.{none_inked, row_added, row_fits, row_more}
use Rattle.stroke_raster.proofs.ReachedRows.{least_joined, none_counted, row_counted}
use Rattle.stroke_raster.proofs.gauge.Gauge.ink_each.Goals as goal

pub loop-row-init : goal.loop-row-init
loop-row-init g c =
    let reaches = λ (r k : ℕ). g.Self.Gauge.reaches c.args.self.now c.args.trace.now.stroke.now c.args.page.now c.args.trace.now.dots r k in
    let z : c.args.part.low - c.args.part.low ≡ 0 = omega arith in
    record {
      inked = none_inked reaches c.args.layout c.args.part.low c.args.columns c.args.bits.now;
      same = refl;
      least = (let n = none_counted reaches c.args.part.low c.args.columns.low (c.args.columns.end - c.args.columns.low) in rw n (omega arith));
      most = rw z (omega arith);
      grows = omega arith;
    }

pub returns-clause-bits : goal.returns-clause-bits
returns-clause-bits g c =
    let e : c.loop-row.row ≡ c.args.part.end = omega (arith, c.loop-row.auto.row-end c.requires.part.order, c.loop-row-test.false) in
    rw e at c.loop-row.invariant.inked

pub returns-clause-least : goal.returns-clause-least
returns-clause-least g c =
    let e : c.loop-row.row ≡ c.args.part.end = omega (arith, c.loop-row.auto.row-end c.requires.part.order, c.loop-row-test.false) in
    rw e at c.loop-row.invariant.least

pub returns-clause-most : goal.returns-clause-most
returns-clause-most g c =
    let e : c.loop-row.row ≡ c.args.part.end = omega (arith, c.loop-row.auto.row-end c.requires.part.order, c.loop-row-test.false) in
    rw e at c.loop-row.invariant.most

pub slice_bounds-line-end : goal.slice_bounds-line-end
slice_bounds-line-end g c =
    let fits = row_fits c.args.page.now c.args.trace.now.dots c.args.layout c.args.part c.args.columns c.loop-row.row (length c.loop-row.bits) c.requires.part c.loop-row.auto.row c.loop-row-test.true (c.loop-row.auto.bits ∙ c.requires.size) in
    omega (arith, fits)

pub ink-requires-clause-line_in : goal.ink-requires-clause-line_in
ink-requires-clause-line_in g c =
    let start : ℕ = (c.loop-row.row - c.args.layout.first) * c.args.layout.stride in
    let fits = row_fits c.args.page.now c.args.trace.now.dots c.args.layout c.args.part c.args.columns c.loop-row.row (length c.loop-row.bits) c.requires.part c.loop-row.auto.row c.loop-row-test.true (c.loop-row.auto.bits ∙ c.requires.size) in
    let long = mid_length start (length c.loop-row.bits - start) c.loop-row.bits (omega (arith, fits)) in
    omega (arith, long, fits, c.requires.part.columns_order, c.requires.part.line_in)

pub ink-requires-clause-boxed : goal.ink-requires-clause-boxed
ink-requires-clause-boxed g c =
    λ i u. c.requires.boxed c.loop-row.row (c.args.columns.low + i) c.loop-row.auto.row c.loop-row-test.true (omega arith) (omega (arith, u))

pub loop-row-preserved : goal.loop-row-preserved
loop-row-preserved g c =
    let inv = c.loop-row.invariant in
    let inked = c.ink.ensures in
    let many : ℕ = c.args.columns.end - c.args.columns.low in
    let reaches = λ (r k : ℕ). g.Self.Gauge.reaches c.args.self.now c.args.trace.now.stroke.now c.args.page.now c.args.trace.now.dots r k in
    let reached : IsReached (reaches c.loop-row.row) c.args.columns.low (c.args.columns.end - c.args.columns.low) _ c.ink.new.line = rw inv.same at inked.bits in
    record {
      inked = row_added c.args.page.now c.args.trace.now.dots reaches c.args.layout c.args.part c.args.columns c.loop-row.row _ _ c.args.bits.now c.loop-row.bits c.ink.new.line
          c.requires.part c.loop-row.auto.row c.loop-row-test.true (c.loop-row.auto.bits ∙ c.requires.size) refl refl inv.inked reached;
      same = inked.same ∙ inv.same;
      least = (let r = row_counted reaches c.args.part.low c.loop-row.row c.args.columns.low many c.loop-row.auto.row in
          let m = rw inv.same at inked.least in
          rw r (least_joined (g.Self.Gauge.count c.args.self.now) _ _ (g.Self.Gauge.count c.loop-row.self) (g.Self.Gauge.count c.ink.new.self) inv.least m));
      most = (let r = row_more c.args.part.low c.loop-row.row many c.loop-row.auto.row in omega (arith, r, inked.most, inv.most));
      grows = omega (arith, inked.grows, inv.grows);
    }
