use Rattle.std.proofs.Common.{◌≡◌, ◌++◌, map, take, drop}
use Rattle.image_places.specs.Turns.{turned_image}
use Rattle.image_places.proofs.turns.turn_images.Given as goal

abbrev pub invariant-loop-image : goal.invariant-loop-image
invariant-loop-image l =
    l.images ≡ map (turned_image l.turn l.page) (take l.image-index l.fn.images) ++ drop l.image-index l.fn.images
