use Rattle.std.proofs.Common.{◌-◌, ◌+◌, ◌≤◌}
use Rattle.stroke_raster.specs.Filling.{IsFilled}
use Rattle.stroke_raster.proofs.fill.fill_fours.Given as goal

-- the cells before `at` are filled
abbrev pub invariant-fours : goal.invariant-fours
invariant-fours l = record {
  low : l.fn.span.low ≤ l.at;
  high : l.at ≤ l.last + 3;
  filled : IsFilled l.fn.span.low l.at l.fn.position l.fn.cells l.cells;
}

abbrev pub decreases-fours : goal.decreases-fours
decreases-fours l = l.last - l.at
