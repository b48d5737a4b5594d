use Rattle.std.proofs.Common.{◌≡◌, take, true}
use Rattle.image_places.specs.Extents.{are_images_off_page}
use Rattle.image_places.proofs.off_page.are_images_off_page.Given as goal

abbrev pub invariant-loop-image : goal.invariant-loop-image
invariant-loop-image l = are_images_off_page l.page (take l.image-index l.images) ≡ true
