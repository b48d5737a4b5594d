use Rattle.std.proofs.Common.{◌∙◌, refl, sym, ap, subst}
use Rattle.image_raster.specs.Cells.{AreCells}
use Rattle.picture_out.specs.Forms.{row_bytes}
use Rattle.rows.specs.Inks.{image_inks_held}
use Rattle.rows.proofs.ImageCells.{cells_are_inked}
use Rattle.rows.proofs.image_row.ImageRow.put.Goals as goal

pub put_cells-requires-clause-inked : goal.put_cells-requires-clause-inked
put_cells-requires-clause-inked g c =
    cells_are_inked 2164260863 c.args.self.now.inks.strokes.now c.as_slice.result.now refl (subst AreCells (sym c.as_slice.ensures.value) c.paint.ensures.small)

pub returns-clause-row : goal.returns-clause-row
returns-clause-row g c = λ text is.
    c.put_cells.ensures.row text
    (is ∙ sym (ap (row_bytes c.args.self.now.form c.args.row (image_inks_held c.args.self.now.inks)) (c.as_slice.ensures.value ∙ c.paint.ensures.cells)))
