-- The rows of strokes without areas.
use Rattle.std.proofs.Common.{◌≡◌, ℕ, List, ap}
use Rattle.plot_page.specs.Segments.{Segment}
use Rattle.plot_page.specs.declared.dots.Dots.{Dots}
use Rattle.plot_page.specs.declared.page.Page.{Page}
use Rattle.plot_page.specs.declared.pens.PenSet.{PenSet}
use Rattle.areas.specs.Shapes.{plain}
use Rattle.stroke_raster.proofs.Alone.{strokes_alone}
use Rattle.picture_out.specs.Forms.{row_bytes}
use Rattle.picture_out.specs.declared.form.Form.{Form}
use Rattle.rows.specs.Pictures.{Reach, inks_of, row_of, row_of_list}

pub row_alone : (form : Form) (reaches : Reach) (pens : PenSet) (strokes : List Segment) (page : Page) (dots : Dots) (row : ℕ)
    → row_of_list form reaches pens (plain strokes) page dots row ≡ row_of form reaches pens strokes page dots row
row_alone form reaches pens strokes page dots row = ap (row_bytes form row (inks_of strokes)) (strokes_alone reaches pens strokes page dots row)
