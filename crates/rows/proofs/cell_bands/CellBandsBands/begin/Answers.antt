use Rattle.areas.specs.Views.{shapes_in}
use Rattle.rows.proofs.Potentials.{stopped_rows, stopped_tests}
use Rattle.rows.proofs.cell_bands.CellBandsBands.begin.Goals as goal

pub returns-clause-text : goal.returns-clause-text
returns-clause-text c =
    let made = c.in_ok-painter.ensures in
    stopped_rows c.args.form c.in_ok-painter.painter c.stop_at.new.self c.args.end_row c.args.scene.pens (shapes_in c.args.scene.shapes) c.args.scene.page c.args.scene.dots c.stop_at.ensures made.strokes made.areas made.page made.dots made.pens

pub returns-clause-tests : goal.returns-clause-tests
returns-clause-tests c =
    let made = c.in_ok-painter.ensures in
    stopped_tests c.in_ok-painter.painter c.stop_at.new.self c.args.scene.pens c.args.scene.shapes.strokes.now c.args.scene.page c.args.scene.dots c.args.first_row c.args.end_row c.stop_at.ensures made.strokes made.page made.dots made.pens made.first
