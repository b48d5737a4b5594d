-- How far images reach on the page that they are drawn on: as far as their frames.
use Rattle.std.specs.Prelude.{Bool, List, Option, Some, fold, if◌then◌else◌}
use Rattle.std.specs.List.{list_all}
use Rattle.page_fit.specs.Census.{is_beside}
use Rattle.page_fit.specs.Extents.{is_empty, joined_with, reach, seen}
use Rattle.page_fit.specs.declared.extent.Extent.{Extent}
use Rattle.page_images.specs.PageImages.{ImageShape}
use Rattle.plot_page.specs.declared.page.Page.{Page}

-- with an image, if something of it is seen
abbrev pub with_image : Page → Option Extent → ImageShape → Option Extent
with_image page found i = if is_empty (seen page i.frame) then found else Some (joined_with found (seen page i.frame))

-- with all images
abbrev pub with_images : Page → Option Extent → List ImageShape → Option Extent
with_images page found images = fold (with_image page) found images

-- all of them lie off the page
abbrev pub are_images_off_page : Page → List ImageShape → Bool
are_images_off_page page images = list_all (λ i. is_beside page (reach i.frame)) images
