use Rattle.std.proofs.Common.{◌≡◌, ◌++◌, map, take, drop}
use Rattle.turning.specs.Turns.{turned_if_selected}
use Rattle.turning.proofs.strokes.turn_strokes.Given as goal

abbrev pub invariant-loop-stroke : goal.invariant-loop-stroke
invariant-loop-stroke l =
    l.strokes ≡ map (turned_if_selected l.pens l.turn l.page) (take l.stroke-index l.fn.strokes) ++ drop l.stroke-index l.fn.strokes
