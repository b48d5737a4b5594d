use Rattle.std.proofs.Common.{◌≡◌, ℕ, ◌+◌, ◌-◌, ◌*◌, ◌^◌, ◌<◌, pos, refl, ap, ap₂, ◌∙◌, arith}
use Rattle.plot_page.specs.Segments.{Segment}
use Rattle.plot_page.specs.declared.page.Page.{Page}
use Rattle.plot_page.specs.declared.dots.Dots.{Dots}
use Rattle.stroke_raster.specs.declared.vector.Vector.{Vector}
use Rattle.stroke_raster.specs.Bounds.{Within}
use Rattle.stroke_raster.specs.Covers.{centre, covers, first_end}
use Rattle.stroke_raster.specs.Gap.{scaled, way}
use Rattle.stroke_raster.proofs.BoundLemmas.{scaled_within, way_within}
use Rattle.stroke_raster.proofs.Parts.{row_added}
use Rattle.stroke_raster.proofs.ReachedRows.{reached_most}
use Rattle.stroke_raster.proofs.ScanLemmas.{covered_is_short_met, mask_reached, short_way_within}
use Rattle.stroke_raster.proofs.scan.ink_short.Goals as goal

pub way_between-start-requires-clause-from_in : goal.way_between-start-requires-clause-from_in
way_between-start-requires-clause-from_in c =
    rw c.times-first.ensures (scaled_within c.args.dots.resolution c.first_end_of.result (2 ^ 27) 1200 (2 ^ 40) (omega arith) (omega arith) c.first_end_of.ensures.small)

pub mask_of-mask-requires-clause-start_in : goal.mask_of-mask-requires-clause-start_in
mask_of-mask-requires-clause-start_in c =
    let f : Within (3 * 2 ^ 36) c.times-first.result = rw c.times-first.ensures (scaled_within c.args.dots.resolution c.first_end_of.result (2 ^ 27) 1200 (3 * 2 ^ 36) (omega arith) (omega arith) c.first_end_of.ensures.small) in
    let w = way_within c.times-first.result c.centre_of.result (3 * 2 ^ 36) (2 ^ 34) (2 ^ 38) (omega arith) f c.centre_of.ensures.small in
    rw c.way_between-start.ensures w

-- the way to the first pixel of a row
start_is : (s : Segment) (page : Page) (dots : Dots) (row low : ℕ) (start first end place : Vector) → start ≡ way first place → first ≡ scaled (pos dots.resolution) end → end ≡ first_end s
    → place ≡ centre page.height dots.resolution row low → start ≡ way (scaled (pos dots.resolution) (first_end s)) (centre page.height dots.resolution row low)
start_is s page dots row low start first end place e f g h = e ∙ ap₂ way (f ∙ ap (λ (v : Vector). scaled (pos dots.resolution) v) g) h

pub mask_of-mask-requires-clause-near : goal.mask_of-mask-requires-clause-near
mask_of-mask-requires-clause-near c =
    let start = start_is c.args.stroke.now c.args.page.now c.args.dots c.loop-row.row c.args.columns.low c.way_between-start.result c.times-first.result c.first_end_of.result c.centre_of.result
    c.way_between-start.ensures c.times-first.ensures c.first_end_of.ensures.value c.centre_of.ensures.value in
    λ i u. short_way_within c.args.stroke.now c.args.page.now c.args.dots c.loop-row.row c.args.columns.low i c.way_between-start.result c.requires.short start
    (c.requires.boxed c.loop-row.row (c.args.columns.low + i) c.loop-row.auto.row c.loop-row-test.true (omega arith) (omega (arith, u)))

pub returns-clause-bits : goal.returns-clause-bits
returns-clause-bits c =
    let e : c.loop-row.row ≡ c.args.part.end = omega (arith, c.loop-row.auto.row-end c.requires.part.order, c.loop-row-test.false) in
    rw e at c.loop-row.invariant.inked

pub returns-clause-least : goal.returns-clause-least
returns-clause-least c =
    let r = reached_most (covers c.args.stroke.now c.args.page.now c.args.dots) c.args.part.low (c.args.part.end - c.args.part.low) c.args.columns.low (c.args.columns.end - c.args.columns.low) in
    rw (c.from.ensures, c.from-2.ensures) r

pub loop-row-preserved : goal.loop-row-preserved
loop-row-preserved c =
    let covered = λ (r k : ℕ). covers c.args.stroke.now c.args.page.now c.args.dots r k in
    let short = c.short_of-short.ensures in
    let start = start_is c.args.stroke.now c.args.page.now c.args.dots c.loop-row.row c.args.columns.low c.way_between-start.result c.times-first.result c.first_end_of.result c.centre_of.result
    c.way_between-start.ensures c.times-first.ensures c.first_end_of.ensures.value c.centre_of.ensures.value in
    let same = λ (i : ℕ) (u : i < c.args.columns.end - c.args.columns.low).
    covered_is_short_met c.short_of-short.result c.args.stroke.now c.args.page.now c.args.dots c.loop-row.row c.args.columns.low i c.way_between-start.result short.course short.resolution short.width start
    (c.requires.boxed c.loop-row.row (c.args.columns.low + i) c.loop-row.auto.row c.loop-row-test.true (omega arith) (omega (arith, u))) in
    let reached = mask_reached c.short_of-short.result c.way_between-start.result (covered c.loop-row.row) c.args.columns.low (c.args.columns.end - c.args.columns.low) c.mask_of-mask.result _ c.ink_mask.new.line
    same c.mask_of-mask.ensures.bits c.ink_mask.ensures in
    record {
      inked = row_added c.args.page.now c.args.dots covered c.args.layout c.args.part c.args.columns c.loop-row.row _ _ c.args.bits.now c.loop-row.bits c.ink_mask.new.line
          c.requires.part c.loop-row.auto.row c.loop-row-test.true (c.loop-row.auto.bits ∙ c.requires.size) refl refl c.loop-row.invariant.inked reached;
    }
