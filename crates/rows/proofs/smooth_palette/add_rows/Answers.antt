use Rattle.std.proofs.Common.{◌≡◌, ℕ, List, true, map, ap, ◌∙◌}
use Rattle.std.specs.List.{range_with_len}
use Rattle.stroke_raster.specs.Bands.{rows_of_band}
use Rattle.smoothing.specs.Cells.{colours_of_cells}
use Rattle.smoothing.specs.Rows.{times_of, width_of}
use Rattle.smoothing.specs.Smoothings.{smoothed}
use Rattle.rows.specs.Inks.{inks_held}
use Rattle.rows.specs.declared.stroke_inks.StrokeInks.{StrokeInks}
use Rattle.rows.proofs.SmoothedRows.{colours_more}
use Rattle.rows.proofs.smooth_palette.add_rows.Goals as goal

pub loop-i-preserved : goal.loop-i-preserved
loop-i-preserved c =
    let inv = c.loop-i.invariant in
    let smooth = c.smooth.ensures in
    let old = c.args.smoother.now in
    let mid = c.loop-i.smoother in
    let i = c.loop-i.i in
    let row : ℕ → StrokeInks → ℕ → ℕ → List (List ℕ) = λ times inks width k. map (smoothed times (colours_of_cells (inks_held inks) (rows_of_band c.args.band.now)) k) (range_with_len 0 width) in
    let are : c.pixels.result.now ≡ row (times_of old.pixels) old.inks (width_of old.pixels) i =
    c.pixels.ensures ∙ smooth.pixels
    ∙ ap (λ (times : ℕ). row times mid.inks (width_of mid.pixels) i) inv.times
    ∙ ap (λ (inks : StrokeInks). row (times_of old.pixels) inks (width_of mid.pixels) i) inv.inks
    ∙ ap (λ (width : ℕ). row (times_of old.pixels) old.inks width i) inv.width in
    let all : c.in_ok-add_pixels.field-0 ≡ true = cc in
    record {
      some = c.in_ok-add_pixels.ensures.some;
      few = c.in_ok-add_pixels.ensures.few;
      colours = colours_more c.args.colours.now.items c.loop-i.colours.items c.add_pixels.new.colours.items (row (times_of old.pixels) old.inks (width_of old.pixels)) i c.pixels.result.now inv.colours (c.in_ok-add_pixels.ensures.colours all) are;
      inks = smooth.inks ∙ inv.inks;
      layout = smooth.layout ∙ inv.layout;
      times = smooth.times ∙ inv.times;
      width = smooth.width ∙ inv.width;
    }
