use Rattle.std.proofs.Common.{◌-◌, ◌≡◌, ℕ, ◌<◌, ◌≤◌, true, false}
use Rattle.stroke_raster.specs.Traces.{is_met}
use Rattle.stroke_raster.proofs.run.end_of_run.Given as goal

-- no pixel on the far side is covered, and the near one is
abbrev pub invariant-parts : goal.invariant-parts
invariant-parts l = record {
  low : l.fn.span.low ≤ l.last;
  order : l.last < l.end;
  high : l.end ≤ l.fn.span.end;
  after : (i : ℕ) → l.end ≤ i → i < l.fn.span.end → is_met l.trace l.start i ≡ false;
  at : is_met l.trace l.start l.last ≡ true;
}

abbrev pub decreases-parts : goal.decreases-parts
decreases-parts l = l.end - l.last
