use Rattle.raster_graphics.proofs.OrderLaws.{rows_stay_in_order_lem}
use Rattle.raster_graphics.proofs.laws.rows_stay_in_order.Goals as goal

pub returns : goal.returns
returns c = rows_stay_in_order_lem
