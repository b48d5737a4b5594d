use Rattle.std.proofs.Common.{◌≡◌, take, true}
use Rattle.turning.specs.Turns.{are_turnable}
use Rattle.turning.proofs.strokes.are_turnable.Given as goal

abbrev pub invariant-loop-stroke : goal.invariant-loop-stroke
invariant-loop-stroke l = are_turnable l.pens l.turn l.page (take l.stroke-index l.strokes) ≡ true
