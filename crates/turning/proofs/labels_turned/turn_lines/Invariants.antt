use Rattle.std.proofs.Common.{◌≡◌, ◌++◌, map, take, drop}
use Rattle.turning.specs.Turns.{turned_line}
use Rattle.turning.proofs.labels_turned.turn_lines.Given as goal

abbrev pub invariant-loop-line : goal.invariant-loop-line
invariant-loop-line l = l.lines ≡ map (turned_line l.turn l.page) (take l.line-index l.fn.lines) ++ drop l.line-index l.fn.lines
