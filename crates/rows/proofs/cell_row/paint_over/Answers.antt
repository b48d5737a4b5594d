use Rattle.std.proofs.Common.{◌∙◌, ap}
use Rattle.page_images.specs.Views.{images_in}
use Rattle.rows.specs.ImageCells.{with_images}
use Rattle.rows.proofs.ImageCells.{are_with}
use Rattle.rows.proofs.cell_row.paint_over.Goals as goal

pub returns-clause-cells : goal.returns-clause-cells
returns-clause-cells c =
    are_with (images_in c.args.images) c.args.page.now c.args.dots c.args.row _ _ c.paint_images.ensures.with
    ∙ ap (with_images (images_in c.args.images) c.args.page.now c.args.dots c.args.row) c.copy_from_slice.ensures.after
