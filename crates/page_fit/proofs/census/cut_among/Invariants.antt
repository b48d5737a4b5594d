use Rattle.std.proofs.Common.{◌≡◌, ◌≤◌, count_by, take}
use Rattle.page_fit.specs.Shapes.{is_cut}
use Rattle.page_fit.proofs.census.cut_among.Given as goal

abbrev pub invariant-loop-stroke : goal.invariant-loop-stroke
invariant-loop-stroke l = (l.count ≡ count_by (is_cut l.page) (take l.stroke-index l.strokes)) × (l.count ≤ l.stroke-index)
