use Rattle.std.proofs.Common.{◌≡◌, ◌++◌, map, take, drop}
use Rattle.page_images.specs.PageImages.{counted}
use Rattle.page_images.proofs.sheets.count_all.Given as goal

abbrev pub invariant-loop-image : goal.invariant-loop-image
invariant-loop-image l =
    l.images ≡ map (counted l.first) (take l.image-index l.fn.images) ++ drop l.image-index l.fn.images
