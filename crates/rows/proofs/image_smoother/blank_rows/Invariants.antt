use Rattle.std.proofs.Common.{◌≡◌, ◌<◌, ℕ, [], length, get_or}
use Rattle.smoothing.specs.Cells.{cells_of}
use Rattle.rows.proofs.image_smoother.blank_rows.Given as goal

-- there are as many rows as were counted
abbrev pub invariant-loop : goal.invariant-loop
invariant-loop l = record {
  count : length l.rows.items ≡ l.counter;
  wide : (k : ℕ) → k < length l.rows.items → length (get_or (cells_of l.rows.items) k []) ≡ l.columns;
}
