use Rattle.std.proofs.Common.{◌≡◌, ◌<◌, ◌+◌, ℕ, List, [], length, get_or, sym, ap, subst, ◌∙◌, arith}
use Rattle.std.proofs.lemmas.List.{get_or-map, length-set, with_items_is}
use Rattle.std.specs.Global.{Vec}
use Rattle.std.specs.Vec.{with_items}
use Rattle.plot_page.specs.Resolutions.{columns_of}
use Rattle.page_images.specs.Views.{images_in}
use Rattle.image_raster.specs.Cells.{AreCells}
use Rattle.stroke_raster.specs.Bands.{first_of, rows_of_band}
use Rattle.smoothing.specs.Cells.{cells_of}
use Rattle.rows.specs.ImageCells.{with_images}
use Rattle.rows.proofs.ImageRows.{cells_set_by}
use Rattle.rows.proofs.image_smoother.paint_rows.Goals as goal

pub paint_over-requires-clause-room : goal.paint_over-requires-clause-room
paint_over-requires-clause-room c =
    let rows = c.loop-k.rows in
    let k = c.loop-k.k in
    let band = rows_of_band c.args.band.now in
    let inv = c.loop-k.invariant in
    let f : Vec ℕ → List ℕ = λ v. v.items in
    let v = get_or rows k c.index-rows-k.result in
    let inside : k < length rows = omega (arith, c.loop-k-test.true, c.min-count.ensures, c.rows.ensures, inv.size) in
    let is : get_or (cells_of rows) k [] ≡ v.items = get_or-map f rows k c.index-rows-k.result [] inside in
    let lt : c.args.from + k < length band = omega (arith, c.loop-k-test.true, c.min-count.ensures, c.saturating_sub.ensures, c.rows.ensures) in
    ap length c.as_mut_slice-painted.ensures.value ∙ sym (ap length is) ∙ inv.room k inside ∙ sym (c.requires.wide (c.args.from + k) [] lt) ∙ sym (ap length c.row-row.ensures)

pub loop-k-preserved : goal.loop-k-preserved
loop-k-preserved c =
    let rows = c.loop-k.rows in
    let i = c.loop-k.k in
    let band = rows_of_band c.args.band.now in
    let inv = c.loop-k.invariant in
    let sheet = c.args.sheet in
    let before = get_or rows i c.index-rows-k.result in
    let new = c.paint_over.new.painted in
    let v = with_items before new in
    let is : v.items ≡ new = with_items_is before new (c.paint_over.ensures.size ∙ c.as_mut_slice-painted.ensures.len) in
    let inside : i < length rows = omega (arith, c.loop-k-test.true, c.min-count.ensures, c.rows.ensures, inv.size) in
    let lt : c.args.from + i < length band = omega (arith, c.loop-k-test.true, c.min-count.ensures, c.saturating_sub.ensures, c.rows.ensures) in
    let there : c.first.result + (c.args.from + i) ≡ first_of c.args.band.now + (c.args.from + i) = ap (λ (n : ℕ). n + (c.args.from + i)) c.first.ensures in
    let made : ℕ → List ℕ = λ k. with_images (images_in sheet.images) sheet.page sheet.dots (first_of c.args.band.now + (c.args.from + k)) (get_or band (c.args.from + k) []) in
    let one : v.items ≡ made i = is ∙ c.paint_over.ensures.cells
    ∙ ap (λ (r : ℕ). with_images (images_in sheet.images) sheet.page sheet.dots r c.row-row.result.now) there
    ∙ ap (with_images (images_in sheet.images) sheet.page sheet.dots (first_of c.args.band.now + (c.args.from + i))) c.row-row.ensures in
    let wide : length v.items ≡ columns_of sheet.page sheet.dots = ap length is ∙ c.paint_over.ensures.size ∙ ap length c.as_mut_slice-painted.ensures.value ∙ sym (ap length (get_or-map (λ (v : Vec ℕ). v.items) rows i c.index-rows-k.result [] inside)) ∙ inv.room i inside in
    record {
      size = length-set rows i v ∙ inv.size;
      room = λ k within. cells_set_by (λ (z : List ℕ). length z ≡ columns_of sheet.page sheet.dots) rows i k v inside (omega (arith, within, length-set rows i v)) (λ e. wide) (λ ne. inv.room k (omega (arith, within, length-set rows i v)));
      painted = λ k small. cells_set_by (λ (z : List ℕ). z ≡ made k) rows i k v inside (omega (arith, small, inside)) (λ e. one ∙ ap made (sym e)) (λ ne. inv.painted k (omega (arith, small, ne)));
      small = λ k small. cells_set_by AreCells rows i k v inside (omega (arith, small, inside)) (λ e. subst AreCells (sym is) c.paint_over.ensures.small) (λ ne. inv.small k (omega (arith, small, ne)));
    }
