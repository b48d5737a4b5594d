-- Images as they are painted.
use Rattle.page_images.specs.PageImages.{ImageShape}
use Rattle.image_raster.specs.declared.placed.PlacedImage.{PlacedImage}

-- what they are as shapes
abbrev pub shape : PlacedImage → ImageShape
shape i = record { image = i.image.now; frame = i.frame; turn = i.turn; before = i.before }
