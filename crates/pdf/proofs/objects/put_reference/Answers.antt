use Rattle.pieces.proofs.Texts.{◌then◌}
use Rattle.pdf.proofs.objects.put_reference.Goals as goal

pub returns : goal.returns
returns g c = record { puts = c.put.ensures.puts then c.put_number.ensures.puts then c.put-2.ensures.puts }
