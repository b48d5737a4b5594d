use Rattle.std.proofs.Common.{◌≡◌, ◌≤◌, ◌<◌, ℕ, length, get_or}
use Rattle.image_raster.specs.Placed.{shape}
use Rattle.image_raster.specs.Cells.{AreCells, cell_with}
use Rattle.image_raster.proofs.placed.PlacedImage.paint.Given as goal

-- the cells before the column are with the image, the others as they were
abbrev pub invariant-loop-column : goal.invariant-loop-column
invariant-loop-column l = record {
  as_many : length l.cells ≡ length l.fn.cells;
  done : (k : ℕ) → k < l.column → get_or l.cells k 0 ≡ cell_with (shape l.fn.self) l.fn.page l.fn.dots l.fn.row k (get_or l.fn.cells k 0);
  left : (k : ℕ) → l.column ≤ k → get_or l.cells k 0 ≡ get_or l.fn.cells k 0;
  cells : AreCells l.fn.cells → AreCells l.cells;
}
