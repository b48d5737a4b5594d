-- Worked examples: the lines of images.
use Rattle.std.proofs.Common.{◌≡◌, [], ◌∷◌, refl, codes, lit≤}
use Rattle.std.specs.Fmt.{digits}
use Rattle.plot_page.specs.declared.page.Page.{Page}
use Rattle.raster_graphics.specs.Machines.{origin}
use Rattle.raster_graphics.specs.Settings.{start_settings}
use Rattle.page_images.specs.PageImages.{ImageShape, page_image}
use Rattle.plot_report.specs.Report.{image_line, images_line}

page : Page
page = record { width = 64; height = 64; left = 0; below = 0; width_in = (lit≤ tt, lit≤ tt); height_in = (lit≤ tt, lit≤ tt); left_in = lit≤ tt; below_in = lit≤ tt }

-- eight dots along y and two rows along x, of which the first was not sent
image : ImageShape
image = page_image page (record { corner = origin; settings = start_settings; width = 8; numbers = 1 ∷ []; planes = [] }) 3

of_image : image_line image ≡ codes "image 8 2 300 box 0 0 109 434\n"
unfolding digits image page
of_image = refl

of_none : images_line 0 ≡ []
of_none = refl

of_two : images_line 2 ≡ codes "images 2\n"
unfolding digits
of_two = refl
