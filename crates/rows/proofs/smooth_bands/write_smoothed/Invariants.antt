use Rattle.std.proofs.Common.{◌≡◌, ◌<◌, ◌≤◌, ◌+◌, ◌*◌, ℕ, List, map, Ok}
use Rattle.std.specs.List.{range_with_len}
use Rattle.stroke_raster.specs.Bands.{rows_of_band}
use Rattle.smoothing.specs.Cells.{colours_of_cells}
use Rattle.smoothing.specs.Rows.{times_of, width_of}
use Rattle.smoothing.specs.Smoothings.{smoothed}
use Rattle.rows.specs.Inks.{inks_held}
use Rattle.rows.specs.PixelRows.{layout_bytes}
use Rattle.rows.specs.Progress.{WritesRows}
use Rattle.rows.proofs.smooth_bands.write_smoothed.Given as goal

-- the rows so far were written
abbrev pub invariant-loop-i : goal.invariant-loop-i
invariant-loop-i g l =
    let old = l.fn.smoother in
    let bytes = λ (k : ℕ). layout_bytes old.layout (map (smoothed (times_of old.pixels) (colours_of_cells (inks_held old.inks) (rows_of_band l.band)) k) (range_with_len 0 (width_of old.pixels))) in
    record {
      so_far : (row : ℕ → List ℕ) → ((k : ℕ) → k < l.count → row (l.at + k) ≡ bytes k) → WritesRows row l.first l.at (l.at + l.i) l.done (g.K.Sink.state l.fn.sink) (g.K.Sink.state l.sink) (Ok l.written);
      small : l.written ≤ l.done + l.i * 33554432;
      quiet : (g.K.Sink.state l.sink).faults ≡ (g.K.Sink.state l.fn.sink).faults;
      inks : l.smoother.inks ≡ old.inks;
      layout : l.smoother.layout ≡ old.layout;
      times : times_of l.smoother.pixels ≡ times_of old.pixels;
      width : width_of l.smoother.pixels ≡ width_of old.pixels;
    }
