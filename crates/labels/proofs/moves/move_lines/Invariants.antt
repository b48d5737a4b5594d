use Rattle.std.proofs.Common.{◌≡◌, ◌++◌, map, take, drop}
use Rattle.labels.specs.Moves.{moved_line}
use Rattle.labels.proofs.moves.move_lines.Given as goal

abbrev pub invariant-loop-line : goal.invariant-loop-line
invariant-loop-line l = l.lines ≡ map (moved_line l.corner) (take l.line-index l.fn.lines) ++ drop l.line-index l.fn.lines
