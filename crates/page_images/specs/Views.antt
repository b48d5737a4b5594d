-- What views of images show.
use Rattle.std.specs.Prelude.{List}
use Rattle.page_images.specs.declared.list.PageImages.{PageImages}
use Rattle.page_images.specs.PageImages.{ImageShape, all_counted}

-- the images among the strokes of a sheet
abbrev pub images_in : PageImages → List ImageShape
images_in images = all_counted images.first images.list.now
