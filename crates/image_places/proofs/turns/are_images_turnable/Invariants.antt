use Rattle.std.proofs.Common.{◌≡◌, take, true}
use Rattle.image_places.specs.Turns.{are_images_turnable}
use Rattle.image_places.proofs.turns.are_images_turnable.Given as goal

abbrev pub invariant-loop-image : goal.invariant-loop-image
invariant-loop-image l = are_images_turnable l.turn l.page (take l.image-index l.images) ≡ true
