use Rattle.pdf.proofs.Contained.{◌next◌}
use Rattle.pdf.proofs.paths.put_colour.Goals as goal

pub returns : goal.returns
returns g c = record { fills = c.put_parts.ensures.fills next c.put.ensures.fills }
