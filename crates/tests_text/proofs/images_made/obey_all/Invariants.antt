use Rattle.raster_graphics.specs.Laws.{IsInOrder}
use Rattle.tests_text.proofs.images_made.obey_all.Given as goal

-- rows stay in order
abbrev pub invariant-loop : goal.invariant-loop
invariant-loop l = IsInOrder l.fn.machine → IsInOrder l.machine
