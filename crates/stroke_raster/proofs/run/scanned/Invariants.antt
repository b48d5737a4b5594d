use Rattle.std.proofs.Common.{◌-◌, ◌≡◌, ℕ, ◌<◌, ◌≤◌, true, false}
use Rattle.stroke_raster.specs.Traces.{is_met}
use Rattle.stroke_raster.proofs.run.scanned.Given as goal

-- of the pixels so far those before the first and after the last that is met are not met
abbrev pub invariant-loop-i : goal.invariant-loop-i
invariant-loop-i l = record {
  low_in : l.low ≤ l.fn.length;
  end_in : l.end ≤ l.i;
  before : (j : ℕ) → j < l.i → j < l.low → is_met l.trace l.start j ≡ false;
  after : (j : ℕ) → l.end ≤ j → j < l.i → is_met l.trace l.start j ≡ false;
  first : l.low < l.fn.length → is_met l.trace l.start l.low ≡ true;
  last : 0 < l.end → is_met l.trace l.start (l.end - 1) ≡ true;
  some : l.low < l.fn.length → l.low < l.end;
  none : 0 < l.end → l.low < l.end;
}
