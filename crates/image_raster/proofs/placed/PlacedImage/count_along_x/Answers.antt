use Rattle.std.proofs.Common.{◌≡◌, ◌<◌, ℕ, length, get_or, ap, sym, subst}
use Rattle.directions.specs.declared.turn.Turn.{Turn}
use Rattle.page_images.proofs.Rows.{below_count}
use Rattle.image_raster.specs.declared.placed.PlacedImage.{PlacedImage}
use Rattle.image_raster.proofs.Extents.{count_of, rows_past}
use Rattle.image_raster.proofs.placed.PlacedImage.count_along_x.Goals as goal

-- the number of each row is below how many there are
each_below : (i : PlacedImage) (k : ℕ) → k < length i.image.now.numbers → get_or i.image.now.numbers k 0 < i.rows
each_below i k less = subst (λ (n : ℕ). get_or i.image.now.numbers k 0 < n) (sym i.enough) (below_count i.image.now.numbers i.ordered k less)

pub returns-in-None : goal.returns-in-None
returns-in-None c r w h =
    let i = c.args.self.now in
    rows_past i.turn i.image.now r w i.rows (ap (λ (t : Turn). count_of t i.image.now i.rows) c.in-None.is) (each_below i) h

pub returns-in-Half : goal.returns-in-Half
returns-in-Half c r w h =
    let i = c.args.self.now in
    rows_past i.turn i.image.now r w i.rows (ap (λ (t : Turn). count_of t i.image.now i.rows) c.in-Half.is) (each_below i) h
