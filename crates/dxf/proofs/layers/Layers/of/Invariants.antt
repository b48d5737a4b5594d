use Rattle.std.proofs.Common.{◌≡◌, drop}
use Rattle.stroke_runs.specs.Drawn.{drawn}
use Rattle.dxf.specs.Layers.{layers_of, with_strokes}
use Rattle.dxf.proofs.layers.Layers.of.Given as goal

-- the layers of the strokes so far, and of those that are left
abbrev pub invariant-loop-stroke : goal.invariant-loop-stroke
invariant-loop-stroke l = record {
  sheet : l.layers.sheet ≡ l.fn.sheet;
  colours : with_strokes l.layers.colours (drawn l.pens (drop l.stroke-index l.strokes)) ≡ (layers_of l.fn.sheet l.pens l.strokes).colours;
}
