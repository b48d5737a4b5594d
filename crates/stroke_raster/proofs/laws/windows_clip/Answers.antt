use Rattle.stroke_raster.proofs.PixelLaws.{clipped}
use Rattle.stroke_raster.proofs.laws.windows_clip.Goals as goal

pub returns : goal.returns
returns c = clipped
