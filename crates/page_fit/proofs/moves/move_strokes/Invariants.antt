use Rattle.std.proofs.Common.{◌≡◌, ◌++◌, map, take, drop}
use Rattle.page_fit.specs.Moves.{moved_if_selected}
use Rattle.page_fit.proofs.moves.move_strokes.Given as goal

abbrev pub invariant-loop-stroke : goal.invariant-loop-stroke
invariant-loop-stroke l =
    l.strokes ≡ map (moved_if_selected l.pens l.page l.corner l.around) (take l.stroke-index l.fn.strokes) ++ drop l.stroke-index l.fn.strokes
