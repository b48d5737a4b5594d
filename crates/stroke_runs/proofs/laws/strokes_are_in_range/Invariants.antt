use Rattle.std.proofs.Common.{take}
use Rattle.std.specs.List.{All}
use Rattle.stroke_runs.specs.Ranges.{IsInRange}
use Rattle.stroke_runs.proofs.laws.strokes_are_in_range.Given as goal

abbrev pub invariant-loop-stroke : goal.invariant-loop-stroke
invariant-loop-stroke l = All IsInRange (take l.stroke-index l.strokes)
