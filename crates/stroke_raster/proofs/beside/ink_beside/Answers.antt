use Rattle.std.proofs.Common.{◌≡◌, ℕ, ◌-◌, refl, ◌∙◌, arith}
use Rattle.stroke_raster.specs.Covers.{covers}
use Rattle.stroke_raster.proofs.EdgeLemmas.{edge_room}
use Rattle.stroke_raster.proofs.Parts.{row_added, row_more, run_reached}
use Rattle.stroke_raster.proofs.Reached.{reached_within}
use Rattle.stroke_raster.proofs.ReachedRows.{row_counted}
use Rattle.stroke_raster.proofs.beside.ink_beside.Goals as goal

pub returns-clause-bits : goal.returns-clause-bits
returns-clause-bits c =
    let e : c.loop-row.row ≡ c.args.edges.now.rows.end = omega (arith, c.loop-row.auto.row-end c.requires.part.order, c.loop-row-test.false) in
    rw e at c.loop-row.invariant.inked

pub returns-clause-least : goal.returns-clause-least
returns-clause-least c =
    let e : c.loop-row.row ≡ c.args.edges.now.rows.end = omega (arith, c.loop-row.auto.row-end c.requires.part.order, c.loop-row-test.false) in
    rw e at c.loop-row.invariant.least

pub next-at-requires-clause-low : goal.next-at-requires-clause-low
next-at-requires-clause-low c = (edge_room _ _ _ _ _ _ (c.loop-row.invariant.edge c.loop-row-test.true)).0

pub next-at-requires-clause-high : goal.next-at-requires-clause-high
next-at-requires-clause-high c = (edge_room _ _ _ _ _ _ (c.loop-row.invariant.edge c.loop-row-test.true)).1

pub loop-row-preserved : goal.loop-row-preserved
loop-row-preserved c =
    let inv = c.loop-row.invariant in
    let run = c.beside_run-run.ensures in
    let many : ℕ = c.args.columns.end - c.args.columns.low in
    let covered = λ (r k : ℕ). covers c.args.trace.now.stroke.now c.args.page.now c.args.trace.now.dots r k in
    let reached = run_reached (covered c.loop-row.row) c.args.columns.low (c.args.columns.end - c.args.columns.low) c.beside_run-run.result.low c.beside_run-run.result.end _ c.ink_run.new.line
    run.order run.high run.before run.inside run.after c.ink_run.ensures in
    record {
      inked = row_added c.args.page.now c.args.trace.now.dots covered c.args.layout c.args.edges.now.rows c.args.columns c.loop-row.row _ _ c.args.bits.now c.loop-row.bits c.ink_run.new.line
          c.requires.part c.loop-row.auto.row c.loop-row-test.true (c.loop-row.auto.bits ∙ c.requires.size) refl refl inv.inked reached;
      least = (let n = row_counted covered c.args.edges.now.rows.low c.loop-row.row c.args.columns.low many c.loop-row.auto.row in
          let w = reached_within (covered c.loop-row.row) c.args.columns.low c.beside_run-run.result.low c.beside_run-run.result.end run.order many run.before run.after in
          rw n (omega (arith, w, run.order, run.high, c.from-count.ensures, inv.least)));
      most = (let r = row_more c.args.edges.now.rows.low c.loop-row.row many c.loop-row.auto.row in
          omega (arith, r, run.order, run.high, c.from-count.ensures, inv.most));
      edge = λ h. c.next-at.ensures c.args.trace.now c.args.page.now c.args.columns.low c.loop-row.row (inv.edge c.loop-row-test.true) h;
    }
