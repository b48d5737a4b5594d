use Rattle.std.proofs.Common.{◌≡◌, ◌++◌, map, take, drop}
use Rattle.turning.specs.Turns.{turned_label}
use Rattle.turning.proofs.labels_turned.turn_labels.Given as goal

abbrev pub invariant-loop-label : goal.invariant-loop-label
invariant-loop-label l = l.labels ≡ map (turned_label l.turn l.page) (take l.label-index l.fn.labels) ++ drop l.label-index l.fn.labels
