use Rattle.std.proofs.Common.{◌≡◌, drop, IfSome}
use Rattle.page_fit.specs.Extents.{IsNear}
use Rattle.image_places.specs.Extents.{with_images}
use Rattle.image_places.proofs.extents.extent_with_images.Given as goal

-- with the images that are left it is the whole extent
abbrev pub invariant-loop-image : goal.invariant-loop-image
invariant-loop-image l = record {
  whole : with_images l.page l.whole (drop l.image-index l.images) ≡ with_images l.page l.fn.found l.images;
  near : IfSome l.whole IsNear;
}
