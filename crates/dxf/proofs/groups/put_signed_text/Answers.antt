use Rattle.pieces.proofs.Texts.{◌then◌}
use Rattle.dxf.proofs.groups.put_signed_text.Goals as goal

pub returns : goal.returns
returns g c = record { puts = c.put_sign.ensures.puts then c.put_size_text.ensures.puts }
