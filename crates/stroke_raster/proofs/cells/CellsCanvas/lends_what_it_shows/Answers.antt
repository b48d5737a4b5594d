use Rattle.stroke_raster.proofs.Rows.{painted_rows}
use Rattle.stroke_raster.proofs.cells.CellsCanvas.lends_what_it_shows.Goals as goal

pub returns : goal.returns
returns c = λ test n first shows.
    painted_rows test n c.args.self.now.columns first c.args.self.now.rows c.args.self.now.cells.items c.requires.sound.wide shows
