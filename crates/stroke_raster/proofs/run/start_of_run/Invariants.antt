use Rattle.std.proofs.Common.{◌-◌, ◌≡◌, ℕ, ◌<◌, ◌≤◌, true, false}
use Rattle.stroke_raster.specs.Traces.{is_met}
use Rattle.stroke_raster.proofs.run.start_of_run.Given as goal

-- no pixel on the far side is covered, and the near one is
abbrev pub invariant-parts : goal.invariant-parts
invariant-parts l = record {
  low : l.fn.span.low ≤ l.low;
  order : l.low ≤ l.end;
  high : l.end ≤ l.fn.span.end;
  before : (i : ℕ) → l.fn.span.low ≤ i → i < l.low → is_met l.trace l.start i ≡ false;
  at : is_met l.trace l.start l.end ≡ true;
}

abbrev pub decreases-parts : goal.decreases-parts
decreases-parts l = l.end - l.low
