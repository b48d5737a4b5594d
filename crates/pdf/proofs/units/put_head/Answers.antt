use Rattle.std.proofs.Common.{ap}
use Rattle.pdf.specs.Operators.{scale_text}
use Rattle.pdf.proofs.Contained.{fills_as, ◌next◌}
use Rattle.pdf.proofs.units.put_head.Goals as goal

pub returns : goal.returns
returns g c = record { fills = fills_as c.put_scale.ensures.fills (ap scale_text c.unit_of.ensures) next c.put.ensures.fills }
