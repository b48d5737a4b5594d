use Rattle.std.proofs.Common.{◌-◌, ◌≡◌, ℕ, ◌<◌, ◌≤◌, false}
use Rattle.stroke_raster.specs.Traces.{is_met}
use Rattle.stroke_raster.proofs.run.end_of_covered.Given as goal

-- those so far are not covered
abbrev pub invariant-columns : goal.invariant-columns
invariant-columns l = record {
  low : l.span.low ≤ l.at;
  high : l.at ≤ l.span.end;
  after : (i : ℕ) → l.at ≤ i → i < l.span.end → is_met l.trace l.start i ≡ false;
}

abbrev pub decreases-columns : goal.decreases-columns
decreases-columns l = l.at - l.span.low
