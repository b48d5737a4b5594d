use Rattle.std.proofs.Common.{◌≡◌, ◌++◌, map, take, drop}
use Rattle.labels.specs.Sheets.{counted}
use Rattle.labels.proofs.sheets.count_all.Given as goal

abbrev pub invariant-loop-label : goal.invariant-loop-label
invariant-loop-label l =
    l.labels ≡ map (counted l.before) (take l.label-index l.fn.labels) ++ drop l.label-index l.fn.labels
