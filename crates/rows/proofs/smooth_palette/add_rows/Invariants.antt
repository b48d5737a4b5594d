use Rattle.std.proofs.Common.{◌≡◌, ◌<◌, ◌≤◌, length, map, fold}
use Rattle.std.specs.List.{flat_map, range_with_len}
use Rattle.stroke_raster.specs.Bands.{rows_of_band}
use Rattle.smoothing.specs.Cells.{colours_of_cells}
use Rattle.smoothing.specs.Rows.{times_of, width_of}
use Rattle.smoothing.specs.Smoothings.{smoothed}
use Rattle.rows.specs.Inks.{inks_held}
use Rattle.rows.specs.Palettes.{with_colour}
use Rattle.rows.proofs.smooth_palette.add_rows.Given as goal

-- the colours of the rows so far were added
abbrev pub invariant-loop-i : goal.invariant-loop-i
invariant-loop-i l =
    let old = l.fn.smoother in
    record {
      some : 0 < length l.colours.items;
      few : length l.colours.items ≤ 256;
      colours : l.colours.items ≡ fold with_colour l.fn.colours.items
          (flat_map (λ k. map (smoothed (times_of old.pixels) (colours_of_cells (inks_held old.inks) (rows_of_band l.band)) k) (range_with_len 0 (width_of old.pixels))) (range_with_len 0 l.i));
      inks : l.smoother.inks ≡ old.inks;
      layout : l.smoother.layout ≡ old.layout;
      times : times_of l.smoother.pixels ≡ times_of old.pixels;
      width : width_of l.smoother.pixels ≡ width_of old.pixels;
    }
