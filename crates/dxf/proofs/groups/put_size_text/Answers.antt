use Rattle.pieces.proofs.Texts.{◌then◌}
use Rattle.dxf.proofs.groups.put_size_text.Goals as goal

pub returns : goal.returns
returns g c = record { puts = c.put_number.ensures.puts then c.put_fraction.ensures.puts }
