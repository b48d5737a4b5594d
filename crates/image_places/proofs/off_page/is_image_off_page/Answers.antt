use Rattle.std.proofs.Common.{◌∙◌, ap}
use Rattle.areas.specs.Shapes.{ShapeList}
use Rattle.page_fit.specs.Census.{is_beside}
use Rattle.page_fit.specs.Extents.{reach}
use Rattle.page_fit.specs.Shapes.{is_off_page}
use Rattle.page_images.specs.PageImages.{ImageShape}
use Rattle.image_places.proofs.Frames.{frame_off_page}
use Rattle.image_places.proofs.off_page.is_image_off_page.Goals as goal

pub returns : goal.returns
returns c =
    let page = c.args.page.now in
    let pens = c.pen_of.result in
    c.is_off_page.ensures ∙ ap (λ (list : ShapeList). is_off_page pens page list) c.of_strokes.ensures.shapes
    ∙ frame_off_page pens c.image.inside.frame c.pen_of.ensures page
    ∙ ap (λ (i : ImageShape). is_beside page (reach i.frame)) c.image.view_is
