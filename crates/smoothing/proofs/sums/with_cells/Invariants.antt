use Rattle.smoothing.specs.Totals.{HasCells}
use Rattle.smoothing.proofs.sums.with_cells.Given as goal

-- the cells so far are in the place of white
abbrev pub invariant-loop-k : goal.invariant-loop-k
invariant-loop-k g l = record { cells : HasCells (g.I.Inks.inks l.inks) l.cells l.first l.k l.fn.sums l.mixed }
