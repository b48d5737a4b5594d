use Rattle.pieces.proofs.Texts.{◌then◌}
use Rattle.svg.proofs.commands.put_pair.Goals as goal

pub returns : goal.returns
returns g c = record { puts = c.put.ensures.puts then c.put_place.ensures.puts }
