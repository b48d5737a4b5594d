use Rattle.stroke_raster.proofs.PixelLaws.{later}
use Rattle.stroke_raster.proofs.laws.later_strokes_cover.Goals as goal

pub returns : goal.returns
returns c = later
