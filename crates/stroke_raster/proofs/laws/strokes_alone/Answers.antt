use Rattle.stroke_raster.proofs.Alone.{strokes_alone}
use Rattle.stroke_raster.proofs.laws.strokes_alone.Goals as goal

pub returns : goal.returns
returns c = strokes_alone
