use Rattle.std.proofs.Common.{◌≡◌, ◌++◌, length, map}
use Rattle.page_images.specs.PageImages.{page_image}
use Rattle.raster_graphics.specs.declared.image.Image.{Image}
use Rattle.raster_graphics.specs.Laws.{IsInOrder}
use Rattle.full_plot.proofs.graphics.Graphics.gather.Given as goal

-- the images that were taken, and those that are left, are all; nothing else is another
abbrev pub invariant-images : goal.invariant-images
invariant-images l = record {
  all : l.self-inside.images.items ++ map (λ (i : Image). page_image l.page i l.fn.count) l.self-inside.machine.images
      ≡ l.fn.self.images ++ map (λ (i : Image). page_image l.page i l.fn.count) l.fn.self.machine.images;
  machine : l.self-inside.machine ≡ record l.fn.self.machine { images = l.self-inside.machine.images };
  ends : l.self-inside.ends.items ≡ l.fn.self.ends;
  ordered : IsInOrder l.self-inside.machine;
}

abbrev pub decreases-images : goal.decreases-images
decreases-images l = length l.self-inside.machine.images
