use Rattle.std.proofs.Common.{◌≡◌, ◌<◌, ℕ, length, get_or, drop}
use Rattle.page_images.specs.PageImages.{all_counted}
use Rattle.image_raster.specs.Cells.{AreCells, cell_with_all}
use Rattle.image_raster.proofs.cells.paint_images.Given as goal

-- with the images that are left, the cells come to what they are with all
abbrev pub invariant-loop-image : goal.invariant-loop-image
invariant-loop-image l =
    let images = l.images in
    record {
      as_many : length l.cells ≡ length l.fn.cells;
      come : (k : ℕ) → k < length l.fn.cells
          → cell_with_all (all_counted images.first (drop l.image-index images.list.now)) l.fn.page l.fn.dots l.fn.row k (get_or l.cells k 0)
          ≡ cell_with_all (all_counted images.first images.list.now) l.fn.page l.fn.dots l.fn.row k (get_or l.fn.cells k 0);
      cells : AreCells l.fn.cells → AreCells l.cells;
    }
