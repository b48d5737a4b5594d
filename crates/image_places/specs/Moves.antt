-- Images moved from the page that they were drawn on to the page around the drawing.
use Rattle.std.specs.Prelude.{Bool, List, map}
use Rattle.std.specs.List.{list_all}
use Rattle.page_fit.specs.Moves.{is_movable, moved_stroke}
use Rattle.page_fit.specs.declared.around.Corner.{Corner}
use Rattle.page_images.specs.PageImages.{ImageShape}
use Rattle.plot_page.specs.declared.page.Page.{Page}

-- the corners of all images are places when they are moved to a page with this corner
abbrev pub are_images_movable : Corner → List ImageShape → Bool
are_images_movable corner images = list_all (λ i. is_movable corner i.frame) images

abbrev pub moved_image : Page → Corner → Page → ImageShape → ImageShape
moved_image page corner around i = record i { frame = moved_stroke page corner around i.frame }

abbrev pub moved_images : Page → Corner → Page → List ImageShape → List ImageShape
moved_images page corner around images = map (moved_image page corner around) images
