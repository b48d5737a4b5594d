use Rattle.smoothing.proofs.Totals.{cell_more, no_cells}
use Rattle.smoothing.proofs.sums.with_cells.Goals as goal

pub loop-k-init : goal.loop-k-init
loop-k-init g c = record { cells = no_cells (g.I.Inks.inks c.args.inks.now) c.args.cells.now c.args.first c.args.sums }

pub loop-k-preserved : goal.loop-k-preserved
loop-k-preserved g c = record {
  cells = cell_more (g.I.Inks.inks c.args.inks.now) c.args.cells.now c.args.first c.loop-k.k _ c.args.sums c.loop-k.mixed _ c.cell_at.ensures c.loop-k.invariant.cells c.with_cell-mixed.ensures;
}
