use Rattle.std.proofs.Common.{◌≡◌, drop}
use Rattle.stroke_runs.specs.Drawn.{drawn}
use Rattle.dxf.specs.Parts.{first_of}
use Rattle.dxf.proofs.parts.first_drawn.Given as goal

-- no stroke so far is drawn
abbrev pub invariant-loop-stroke : goal.invariant-loop-stroke
invariant-loop-stroke l = first_of (drawn l.pens (drop l.stroke-index l.strokes)) ≡ first_of (drawn l.pens l.strokes)
