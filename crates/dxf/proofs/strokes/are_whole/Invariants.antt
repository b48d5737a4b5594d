use Rattle.std.proofs.Common.{◌≡◌, drop}
use Rattle.std.specs.List.{list_all}
use Rattle.dxf.specs.Cuts.{is_whole}
use Rattle.dxf.proofs.strokes.are_whole.Given as goal

-- no stroke so far is cut
abbrev pub invariant-loop-stroke : goal.invariant-loop-stroke
invariant-loop-stroke l = list_all is_whole (drop l.stroke-index l.strokes) ≡ list_all is_whole l.strokes
