use Rattle.std.proofs.Common.{◌-◌, ◌≡◌, ℕ, ◌<◌, ◌≤◌, false}
use Rattle.stroke_raster.specs.Traces.{is_met}
use Rattle.stroke_raster.proofs.run.first_covered.Given as goal

-- those so far are not covered
abbrev pub invariant-columns : goal.invariant-columns
invariant-columns l = record {
  low : l.span.low ≤ l.at;
  high : l.at ≤ l.span.end;
  before : (i : ℕ) → l.span.low ≤ i → i < l.at → is_met l.trace l.start i ≡ false;
}

abbrev pub decreases-columns : goal.decreases-columns
decreases-columns l = l.span.end - l.at
