use Rattle.std.proofs.Common.{◌≡◌, take}
use Rattle.page_fit.specs.Shapes.{diagonal}
use Rattle.page_fit.proofs.diagonal.diagonal.Given as goal

abbrev pub invariant-loop-stroke : goal.invariant-loop-stroke
invariant-loop-stroke l = l.found ≡ diagonal l.fn.first (take l.stroke-index l.more)
