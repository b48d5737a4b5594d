use Rattle.std.proofs.Common.{ap, decimal}
use Rattle.pdf.proofs.Contained.{fills_as, ◌next◌}
use Rattle.pdf.proofs.paths.put_width.Goals as goal

pub returns : goal.returns
returns g c = record { fills = fills_as c.put_number.ensures.fills (ap decimal c.shown_width.ensures) next c.put.ensures.fills }
