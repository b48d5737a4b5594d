use Rattle.std.proofs.Common.{◌≡◌, ◌<◌, ◌+◌, ◌*◌, ◌-◌, ℕ, List, [], length, get_or, map, take, min, refl, sym, ap, subst, ◌∙◌}
use Rattle.std.specs.Global.{Vec}
use Rattle.std.specs.List.{range_with_len}
use Rattle.std.proofs.lemmas.List.{length-map, with_items_is}
use Rattle.page_images.specs.Views.{images_in}
use Rattle.image_raster.specs.Cells.{AreCells}
use Rattle.stroke_raster.specs.Bands.{first_of, rows_of_band}
use Rattle.smoothing.specs.Cells.{cells_of, colours_of_cells}
use Rattle.smoothing.specs.Rows.{width_of}
use Rattle.smoothing.specs.Smoothings.{smoothed}
use Rattle.png.specs.declared.header.Layout.TheVariants.{Rgb}
use Rattle.rows.specs.ImageCells.{with_images}
use Rattle.rows.specs.Inks.{image_inks_held}
use Rattle.rows.specs.PixelRows.{layout_bytes}
use Rattle.rows.specs.Progress.{band_with_images}
use Rattle.rows.proofs.ImageRows.{first_inked, pixels_of_band}
use Rattle.rows.proofs.image_smoother.ImageSmoother.make.Goals as goal

pub smooth-requires-clause-inks : goal.smooth-requires-clause-inks
smooth-requires-clause-inks c =
    let v = c.args.self.now in
    let new = c.paint_rows-count.new.rows in
    let is = c.as_slice.ensures.value ∙ with_items_is v.rows new (c.paint_rows-count.ensures.size ∙ c.as_mut_slice.ensures.len) in
    first_inked 2164260863 c.paint_rows-count.result v.inks.strokes.now (cells_of c.as_slice.result.now) refl
    (λ k lt. subst (λ (z : List (Vec ℕ)). AreCells (get_or (cells_of z) k [])) (sym is) (c.paint_rows-count.ensures.small k lt))

pub returns-clause-bytes : goal.returns-clause-bytes
returns-clause-bytes c =
    let v = c.args.self.now in
    let new = c.paint_rows-count.new.rows in
    let is = c.as_slice.ensures.value ∙ with_items_is v.rows new (c.paint_rows-count.ensures.size ∙ c.as_mut_slice.ensures.len) in
    let cells = cells_of c.as_slice.result.now in
    let band = rows_of_band c.args.band.now in
    let first = first_of c.args.band.now in
    let n = v.times in
    let size : length cells ≡ n = length-map c.as_slice.result.now (λ (r : Vec ℕ). r.items) ∙ ap length is ∙ c.paint_rows-count.ensures.size ∙ ap length c.as_mut_slice.ensures.value ∙ v.enough in
    let many : length c.as_mut_slice.result.now ≡ n = ap length c.as_mut_slice.ensures.value ∙ v.enough in
    let counted : c.paint_rows-count.result ≡ min n (length band - n * c.args.i) = c.paint_rows-count.ensures.count ∙ ap (λ (k : ℕ). min k (length band - n * c.args.i)) many in
    let painted : (k : ℕ) → k < c.paint_rows-count.result → get_or cells k [] ≡ with_images (images_in v.sheet.images) v.sheet.page v.sheet.dots (first + (n * c.args.i + k)) (get_or band (n * c.args.i + k) []) =
    λ k lt. ap (λ (z : List (Vec ℕ)). get_or (cells_of z) k []) is ∙ c.paint_rows-count.ensures.painted k lt in
    let all = band_with_images (images_in v.sheet.images) v.sheet.page v.sheet.dots first band in
    let times = λ (m : ℕ). map (smoothed m (colours_of_cells (image_inks_held v.inks) (take c.paint_rows-count.result cells)) 0) (range_with_len 0 (width_of v.pixels)) in
    c.pack_pixels.ensures.bytes
    ∙ ap (layout_bytes Rgb) (c.pixels.ensures ∙ c.smooth.ensures.pixels ∙ ap times v.same
    ∙ pixels_of_band (image_inks_held v.inks) n c.args.i c.paint_rows-count.result (width_of v.pixels) first (images_in v.sheet.images) v.sheet.page v.sheet.dots cells band size counted painted
    ∙ ap (λ (m : ℕ). map (smoothed m (colours_of_cells (image_inks_held v.inks) all) c.args.i) (range_with_len 0 (width_of v.pixels))) (sym v.same))
