use Rattle.pieces.proofs.Texts.{◌then◌}
use Rattle.pdf.proofs.pages.put_stream_start.Goals as goal

pub returns : goal.returns
returns g c = record { puts = c.put.ensures.puts then c.put_reference.ensures.puts then c.put-2.ensures.puts }
