use Rattle.std.proofs.Common.{◌≡◌, take, true}
use Rattle.page_fit.specs.Moves.{are_movable}
use Rattle.page_fit.proofs.moves.are_movable.Given as goal

abbrev pub invariant-loop-stroke : goal.invariant-loop-stroke
invariant-loop-stroke l = are_movable l.pens l.corner (take l.stroke-index l.strokes) ≡ true
