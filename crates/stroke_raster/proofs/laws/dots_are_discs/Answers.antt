use Rattle.stroke_raster.proofs.PixelLaws.{disc}
use Rattle.stroke_raster.proofs.laws.dots_are_discs.Goals as goal

pub returns : goal.returns
returns c = disc
