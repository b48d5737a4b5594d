use Rattle.raster_graphics.proofs.OrderLaws.{closed_in_order}
use Rattle.raster_graphics.proofs.machine.Machine.close.Goals as goal

pub returns-clause-ordered : goal.returns-clause-ordered
returns-clause-ordered c = closed_in_order c.args.self.now c.end_open.new.self c.end_open.result c.end_open.ensures.closed
