use Rattle.image_raster.proofs.LastShapes.{last_shape_is_shown_lem}
use Rattle.image_raster.proofs.laws.last_shape_is_shown.Goals as goal

pub returns : goal.returns
returns c = last_shape_is_shown_lem
