use Rattle.std.proofs.Common.{◌≡◌, ◌++◌, map, take, drop}
use Rattle.areas.specs.Shapes.{counted}
use Rattle.areas.proofs.among.count_all.Given as goal

abbrev pub invariant-loop-area : goal.invariant-loop-area
invariant-loop-area l = l.areas ≡ map (counted l.before) (take l.area-index l.fn.areas) ++ drop l.area-index l.fn.areas
