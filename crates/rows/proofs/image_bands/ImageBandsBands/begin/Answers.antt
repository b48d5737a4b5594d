use Rattle.std.proofs.Common.{ℕ, List, ap, ◌∙◌}
use Rattle.areas.specs.Views.{shapes_in}
use Rattle.page_images.specs.Views.{images_in}
use Rattle.page_images.specs.declared.list.PageImages.{PageImages}
use Rattle.picture_out.specs.declared.form.Form.{Form}
use Rattle.rows.specs.declared.cell_row.CellRow.{CellRow}
use Rattle.rows.specs.Pictures.{Reach}
use Rattle.rows.specs.Progress.{image_painting_row}
use Rattle.rows.proofs.ImagePictures.{stopped_image_rows}
use Rattle.rows.proofs.Potentials.{stopped_tests}
use Rattle.rows.proofs.image_bands.ImageBandsBands.begin.Goals as goal

pub returns-clause-text : goal.returns-clause-text
returns-clause-text c =
    let made = c.in_ok-painter.ensures in
    let row = c.in-Ok-new.row in
    let G : Form → PageImages → Reach → ℕ → List ℕ = λ f i. image_painting_row (record { painting = c.stop_at.new.self; images = images_in i; form = f }) in
    ap (λ (f : Form). G f row.row.images) c.in-Ok-new.ensures.form
    ∙ ap (G c.args.ask.form) (ap (λ (r : CellRow). r.images) c.in-Ok-new.ensures.row ∙ c.in-Ok.ensures.images)
    ∙ stopped_image_rows c.args.ask.form (images_in c.args.ask.images) c.in_ok-painter.painter c.stop_at.new.self c.args.end_row c.args.scene.pens (shapes_in c.args.scene.shapes) c.args.scene.page c.args.scene.dots c.stop_at.ensures made.strokes made.areas made.page made.dots made.pens

pub returns-clause-tests : goal.returns-clause-tests
returns-clause-tests c =
    let made = c.in_ok-painter.ensures in
    stopped_tests c.in_ok-painter.painter c.stop_at.new.self c.args.scene.pens c.args.scene.shapes.strokes.now c.args.scene.page c.args.scene.dots c.args.first_row c.args.end_row c.stop_at.ensures made.strokes made.page made.dots made.pens made.first
