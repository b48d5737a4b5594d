use Rattle.stroke_raster.proofs.Bands.{bands_join}
use Rattle.stroke_raster.proofs.laws.bands_are_the_rows.Goals as goal

pub returns : goal.returns
returns c = bands_join
