use Rattle.std.proofs.Common.{◌≡◌, take, true}
use Rattle.image_places.specs.Moves.{are_images_movable}
use Rattle.image_places.proofs.moves.are_images_movable.Given as goal

abbrev pub invariant-loop-image : goal.invariant-loop-image
invariant-loop-image l = are_images_movable l.corner (take l.image-index l.images) ≡ true
