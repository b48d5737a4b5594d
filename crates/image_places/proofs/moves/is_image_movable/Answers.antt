use Rattle.std.proofs.Common.{◌∙◌, ap}
use Rattle.page_images.specs.PageImages.{ImageShape}
use Rattle.page_fit.specs.Moves.{is_movable}
use Rattle.image_places.proofs.Frames.{movable_frame}
use Rattle.image_places.proofs.moves.is_image_movable.Goals as goal

pub returns : goal.returns
returns c =
    let corner = c.args.corner in
    c.are_movable.ensures ∙ movable_frame c.pen_of.result c.image.inside.frame c.pen_of.ensures corner
    ∙ ap (λ (i : ImageShape). is_movable corner i.frame) c.image.view_is
