use Rattle.std.proofs.Common.{◌∷◌, ◌∙◌, ◌+◌, List, ap, arith, drop, flat_map, refl, sym}
use Rattle.std.proofs.lemmas.List.{drop_all, drop_more}
use Rattle.page_images.specs.PageImages.{ImageShape}
use Rattle.pieces.proofs.Texts.{all_left, all_put, next_put}
use Rattle.plot_report.specs.Report.{image_line}
use Rattle.plot_report.proofs.report.put_images.Goals as goal

pub loop-image-init : goal.loop-image-init
loop-image-init g c = all_left c.requires.sound refl

pub loop-image-preserved : goal.loop-image-preserved
loop-image-preserved g c =
    let images = c.args.images.now in
    let at = c.loop-image.image-index in
    let image = c.image-item.result in
    let more = drop_more images at image c.loop-image-test.true ∙ ap (λ (i : ImageShape). i ∷ drop (at + 1) images) (sym c.image-item.is) in
    next_put c.loop-image.invariant c.put_image_line.ensures.puts (ap (λ (is : List ImageShape). flat_map image_line is) more)

pub returns : goal.returns
returns g c =
    let none = drop_all c.loop-image.image-index c.args.images.now (omega arith) in
    record { puts = all_put c.loop-image.invariant (ap (λ (is : List ImageShape). flat_map image_line is) none) }
