use Rattle.raster_graphics.proofs.OrderLaws.{obeyed_in_order}
use Rattle.raster_graphics.proofs.machine.Machine.obey.Goals as goal

pub returns-clause-ordered : goal.returns-clause-ordered
returns-clause-ordered c =
    obeyed_in_order c.args.request c.args.input.now c.args.self.now c.carry_out.new.self c.carry_out.result c.carry_out.ensures.obeyed
