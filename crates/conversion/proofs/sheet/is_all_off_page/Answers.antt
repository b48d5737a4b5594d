use Rattle.std.proofs.Common.{◌∙◌, ◌&&◌, Bool, ap, sym}
use Rattle.image_places.specs.Extents.{are_images_off_page}
use Rattle.page_images.specs.Views.{images_in}
use Rattle.conversion.proofs.CountedImages.{off_counted}
use Rattle.conversion.proofs.sheet.is_all_off_page.Goals as goal

pub returns-then-is_off_page : goal.returns-then-is_off_page
returns-then-is_off_page c =
    let page = c.args.page.now in
    let images = c.args.contents.images in
    let shapes = sym c.is_off_page.ensures ∙ c.if-is_off_page.true in
    c.are_images_off_page.ensures ∙ sym (off_counted page images.first images.list.now)
    ∙ ap (λ (b : Bool). b && are_images_off_page page (images_in images)) (sym shapes)
