use Rattle.std.proofs.Common.{length}
use Rattle.raster_graphics.specs.Laws.{IsInOrder}
use Rattle.tests_text.proofs.images_made.images_of.Given as goal

-- those that are left are in order
abbrev pub invariant-images : goal.invariant-images
invariant-images l = IsInOrder l.machine

abbrev pub decreases-images : goal.decreases-images
decreases-images l = length l.machine.images
