use Rattle.std.proofs.Common.{◌∙◌, sym, set, ap}
use Rattle.std.proofs.lemmas.List.Edits.{map_over_more}
use Rattle.page_images.specs.PageImages.{ImageShape, counted}
use Rattle.page_images.proofs.sheets.count_all.Goals as goal

pub loop-image-preserved : goal.loop-image-preserved
loop-image-preserved c =
    let i = c.loop-image.image-index in
    let images = c.loop-image.images in
    let image : ImageShape = c.image-item.result in
    let f : ImageShape → ImageShape = counted c.args.first in
    ap (set images i) (c.count.ensures ∙ ap f (sym c.image-item.is))
    ∙ map_over_more f c.args.images.now images i image c.loop-image-test.true c.loop-image.invariant c.image-item.is
