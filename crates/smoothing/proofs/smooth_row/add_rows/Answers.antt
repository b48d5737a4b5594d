use Rattle.std.proofs.Common.{◌<◌, length, arith, ◌∙◌}
use Rattle.smoothing.proofs.Rows.{row_more, rows_none}
use Rattle.smoothing.proofs.smooth_row.add_rows.Goals as goal

pub loop-k-init : goal.loop-k-init
loop-k-init g c = record { size = omega arith; rows = λ k d lt. rows_none c.args.times _ c.args.i k _ (c.requires.white k d lt) }

pub loop-k-preserved : goal.loop-k-preserved
loop-k-preserved g c = record {
  size = c.add_finer_row.ensures.size ∙ c.loop-k.invariant.size;
  rows = λ k d lt.
      let inside : k < length c.loop-k.sums = omega (arith, lt, c.add_finer_row.ensures.size) in
      row_more (g.I.Inks.inks c.args.inks.now) (g.R.FinerRows.finer c.args.rows.now) c.args.times c.args.i c.loop-k.k k _ _ (c.loop-k.invariant.rows k d inside) (c.add_finer_row.ensures.cells k d inside);
}
