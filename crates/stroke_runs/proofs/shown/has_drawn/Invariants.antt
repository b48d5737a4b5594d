use Rattle.std.proofs.Common.{◌≡◌, take, false}
use Rattle.std.specs.List.{list_any}
use Rattle.stroke_runs.specs.Drawn.{is_drawn}
use Rattle.stroke_runs.proofs.shown.has_drawn.Given as goal

abbrev pub invariant-loop-stroke : goal.invariant-loop-stroke
invariant-loop-stroke l = list_any (is_drawn l.pens) (take l.stroke-index l.strokes) ≡ false
