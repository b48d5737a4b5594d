use Rattle.std.proofs.Common.{◌≡◌, ◌<◌, ◌+◌, ℕ, [], length, get_or}
use Rattle.plot_page.specs.Resolutions.{columns_of}
use Rattle.page_images.specs.Views.{images_in}
use Rattle.image_raster.specs.Cells.{AreCells}
use Rattle.stroke_raster.specs.Bands.{first_of, rows_of_band}
use Rattle.smoothing.specs.Cells.{cells_of}
use Rattle.rows.specs.ImageCells.{with_images}
use Rattle.rows.proofs.image_smoother.paint_rows.Given as goal

-- the rows so far are painted
abbrev pub invariant-loop-k : goal.invariant-loop-k
invariant-loop-k l = record {
  size : length l.rows ≡ length l.fn.rows;
  room : (k : ℕ) → k < length l.rows → length (get_or (cells_of l.rows) k []) ≡ columns_of l.sheet.page l.sheet.dots;
  painted : (k : ℕ) → k < l.k → get_or (cells_of l.rows) k [] ≡ with_images (images_in l.sheet.images) l.sheet.page l.sheet.dots
      (first_of l.band + (l.from + k)) (get_or (rows_of_band l.band) (l.from + k) []);
  small : (k : ℕ) → k < l.k → AreCells (get_or (cells_of l.rows) k []);
}
