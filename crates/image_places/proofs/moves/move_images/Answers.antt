use Rattle.std.proofs.Common.{◌∙◌, sym, set, ap}
use Rattle.std.proofs.lemmas.List.Edits.{map_over_more}
use Rattle.image_places.specs.Moves.{moved_image}
use Rattle.page_images.specs.PageImages.{ImageShape}
use Rattle.image_places.proofs.moves.move_images.Goals as goal

pub loop-image-preserved : goal.loop-image-preserved
loop-image-preserved c =
    let i = c.loop-image.image-index in
    let images = c.loop-image.images in
    let image : ImageShape = c.image-item.result in
    let f : ImageShape → ImageShape = moved_image c.args.page.now c.args.corner c.args.around.now in
    ap (set images i) (c.move_image.ensures ∙ ap f (sym c.image-item.is))
    ∙ map_over_more f c.args.images.now images i image c.loop-image-test.true c.loop-image.invariant c.image-item.is
