use Rattle.std.proofs.Common.{◌≡◌, ◌++◌, map, take, drop}
use Rattle.image_places.specs.Moves.{moved_image}
use Rattle.image_places.proofs.moves.move_images.Given as goal

abbrev pub invariant-loop-image : goal.invariant-loop-image
invariant-loop-image l =
    l.images ≡ map (moved_image l.page l.corner l.around) (take l.image-index l.fn.images) ++ drop l.image-index l.fn.images
