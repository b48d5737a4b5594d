use Rattle.pdf.proofs.Contained.{◌next◌}
use Rattle.pdf.proofs.paths.put_layer.Goals as goal

pub returns : goal.returns
returns g c = record { fills = c.put.ensures.fills next c.put_number.ensures.fills next c.put-2.ensures.fills }
