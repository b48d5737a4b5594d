use Rattle.std.proofs.Common.{◌≡◌, length}
use Rattle.smoothing.specs.Cells.{colours_of_cells}
use Rattle.smoothing.specs.Totals.{HaveRows}
use Rattle.smoothing.proofs.smooth_row.add_rows.Given as goal

-- the rows so far are in the place of white ones
abbrev pub invariant-loop-k : goal.invariant-loop-k
invariant-loop-k g l = record {
  size : length l.sums ≡ length l.fn.sums;
  rows : HaveRows l.times (colours_of_cells (g.I.Inks.inks l.inks) (g.R.FinerRows.finer l.rows)) l.i l.k l.sums;
}
