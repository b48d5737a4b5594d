use Rattle.std.proofs.Common.{◌≡◌, ◌++◌, map, take, drop}
use Rattle.labels.specs.Moves.{moved_label}
use Rattle.labels.proofs.moves.move_labels.Given as goal

abbrev pub invariant-loop-label : goal.invariant-loop-label
invariant-loop-label l =
    l.labels ≡ map (moved_label l.corner) (take l.label-index l.fn.labels) ++ drop l.label-index l.fn.labels
