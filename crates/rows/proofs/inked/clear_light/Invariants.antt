use Rattle.std.proofs.Common.{◌≡◌, ◌<◌, ◌≤◌, ℕ, length, get_or}
use Rattle.image_raster.specs.Cells.{AreCells}
use Rattle.rows.specs.ImageCells.{without_light}
use Rattle.rows.proofs.inked.clear_light.Given as goal

-- the cells so far are without those of light dots, and the others as they were
abbrev pub invariant-loop-cell : goal.invariant-loop-cell
invariant-loop-cell l = record {
  size : length l.cells ≡ length l.fn.cells;
  done : (k : ℕ) → k < l.cell-index → get_or l.cells k 0 ≡ without_light (get_or l.fn.cells k 0);
  left : (k : ℕ) → l.cell-index ≤ k → get_or l.cells k 0 ≡ get_or l.fn.cells k 0;
  small : AreCells l.cells;
}
