use Rattle.std.proofs.Common.{◌∙◌, ap}
use Rattle.page_images.specs.PageImages.{ImageShape}
use Rattle.turning.specs.Turns.{is_turnable}
use Rattle.image_places.proofs.Frames.{turnable_frame}
use Rattle.image_places.proofs.turns.is_image_turnable.Goals as goal

pub returns : goal.returns
returns c =
    let turn = c.args.turn in
    let page = c.args.page.now in
    c.are_turnable.ensures ∙ turnable_frame c.pen_of.result c.image.inside.frame c.pen_of.ensures turn page
    ∙ ap (λ (i : ImageShape). is_turnable turn page i.frame) c.image.view_is
