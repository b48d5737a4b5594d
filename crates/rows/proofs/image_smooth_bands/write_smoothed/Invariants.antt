use Rattle.std.proofs.Common.{◌≡◌, ◌<◌, ◌≤◌, ◌+◌, ◌*◌, ℕ, List, map, Ok}
use Rattle.std.specs.List.{range_with_len}
use Rattle.page_images.specs.Views.{images_in}
use Rattle.stroke_raster.specs.Bands.{first_of, rows_of_band}
use Rattle.smoothing.specs.Cells.{colours_of_cells}
use Rattle.smoothing.specs.Rows.{times_of, width_of}
use Rattle.smoothing.specs.Smoothings.{smoothed}
use Rattle.png.specs.declared.header.Layout.TheVariants.{Rgb}
use Rattle.rows.specs.Inks.{image_inks_held}
use Rattle.rows.specs.PixelRows.{layout_bytes}
use Rattle.rows.specs.Progress.{band_with_images, WritesRows}
use Rattle.rows.proofs.image_smooth_bands.write_smoothed.Given as goal

-- the rows so far were written
abbrev pub invariant-loop-i : goal.invariant-loop-i
invariant-loop-i g l =
    let old = l.fn.smoother in
    let rows = band_with_images (images_in old.sheet.images) old.sheet.page old.sheet.dots (first_of l.band) (rows_of_band l.band) in
    let bytes = λ (k : ℕ). layout_bytes Rgb (map (smoothed (times_of old.pixels) (colours_of_cells (image_inks_held old.inks) rows) k) (range_with_len 0 (width_of old.pixels))) in
    record {
      so_far : (row : ℕ → List ℕ) → ((k : ℕ) → k < l.count → row (l.at + k) ≡ bytes k) → WritesRows row l.first l.at (l.at + l.i) l.done (g.K.Sink.state l.fn.sink) (g.K.Sink.state l.sink) (Ok l.written);
      small : l.written ≤ l.done + l.i * 33554432;
      quiet : (g.K.Sink.state l.sink).faults ≡ (g.K.Sink.state l.fn.sink).faults;
      sheet : l.smoother.sheet ≡ old.sheet;
      inks : l.smoother.inks ≡ old.inks;
      times : times_of l.smoother.pixels ≡ times_of old.pixels;
      width : width_of l.smoother.pixels ≡ width_of old.pixels;
    }
