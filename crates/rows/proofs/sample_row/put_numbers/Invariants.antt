use Rattle.std.proofs.Common.{◌≡◌, ◌<◌, ◌≤◌, ℕ, length, get_or}
use Rattle.rows.specs.Palettes.{number_of}
use Rattle.rows.proofs.sample_row.put_numbers.Given as goal

-- the samples before this column are numbers, those from `end` on are 0, and those past the cells are as they were
abbrev pub invariant-loop-column : goal.invariant-loop-column
invariant-loop-column l = record {
  size : length l.samples ≡ length l.fn.samples;
  before : (k : ℕ) → k < l.column → get_or l.samples k 0 ≡ number_of l.numbers (get_or l.cells k 0);
  after : (k : ℕ) → l.end ≤ k → k < length l.cells → get_or l.samples k 0 ≡ 0;
  others : (k : ℕ) → length l.cells ≤ k → get_or l.samples k 0 ≡ get_or l.fn.samples k 0;
}
