use Rattle.std.proofs.Common.{◌∙◌, ap, ◌++◌, ◌∷◌, [], List, map}
use Rattle.page_images.specs.PageImages.{ImageShape, page_image}
use Rattle.raster_graphics.specs.declared.image.Image.{Image}
use Rattle.raster_graphics.specs.declared.machine.Machine.{Machine}
use Rattle.full_plot.proofs.GatheredImages.{one_gathered, taken_in_order}
use Rattle.full_plot.proofs.graphics.Graphics.gather.Goals as goal

pub new-requires : goal.new-requires
new-requires c =
    (taken_in_order c.images.self-inside.machine c.take_done.new.self c.in-Some.image c.in-Some.ensures.taken c.in-Some.ensures.left
    c.images.invariant.ordered).0

pub images-preserved : goal.images-preserved
images-preserved c =
    let m = c.images.self-inside.machine in
    let n = c.take_done.new.self in
    let f : Image → ImageShape = λ i. page_image c.args.page.now i c.args.count in
    let done = c.images.self-inside.images.items in
    record {
      all = ap (λ (is : List ImageShape). is ++ map f n.images)
          (c.in_ok-push.ensures.items ∙ ap (λ (i : ImageShape). done ++ i ∷ []) c.new.ensures)
          ∙ one_gathered f done c.in-Some.image n.images m.images c.in-Some.ensures.taken ∙ c.images.invariant.all;
      machine = c.in-Some.ensures.left ∙ ap (λ (k : Machine). record k { images = n.images }) c.images.invariant.machine;
      ends = c.images.invariant.ends;
      ordered = (taken_in_order m n c.in-Some.image c.in-Some.ensures.taken c.in-Some.ensures.left c.images.invariant.ordered).1;
    }

pub invariant_of-self : goal.invariant_of-self
invariant_of-self c =
    (taken_in_order c.images.self-inside.machine c.take_done.new.self c.in-Some.image c.in-Some.ensures.taken c.in-Some.ensures.left
    c.images.invariant.ordered).1
