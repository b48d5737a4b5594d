use Rattle.std.proofs.Common.{◌≡◌, ◌≤◌, ◌<◌, ℕ, get_or}
use Rattle.stroke_raster.proofs.fill.fill_each.Given as goal

-- those of the span so far have the place, the others are as they were
abbrev pub invariant-loop-at : goal.invariant-loop-at
invariant-loop-at l = record {
  before : (i : ℕ) → i < l.fn.span.low → get_or l.cells i 0 ≡ get_or l.fn.cells i 0;
  inside : (i : ℕ) → l.fn.span.low ≤ i → i < l.at → get_or l.cells i 0 ≡ l.fn.position;
  after : (i : ℕ) → l.at ≤ i → get_or l.cells i 0 ≡ get_or l.fn.cells i 0;
}
