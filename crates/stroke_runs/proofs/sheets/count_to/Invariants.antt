use Rattle.std.proofs.Common.{◌≡◌, ◌+◌, length}
use Rattle.labels.specs.Sheets.{all_counted, count_to}
use Rattle.stroke_runs.proofs.sheets.count_to.Given as goal

-- those that were counted, and those that are left
abbrev pub invariant-labels : goal.invariant-labels
invariant-labels l = record {
  same : l.count + count_to l.end (all_counted l.before l.rest) ≡ count_to l.end (all_counted l.before l.labels);
  few : l.count + length l.rest ≡ length l.labels;
}

abbrev pub decreases-labels : goal.decreases-labels
decreases-labels l = length l.rest
