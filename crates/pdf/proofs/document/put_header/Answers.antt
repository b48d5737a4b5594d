use Rattle.pieces.proofs.Texts.{◌then◌, puts_as}
use Rattle.pdf.proofs.document.put_header.Goals as goal

pub returns : goal.returns
returns g c = record { puts = puts_as c.put.ensures.puts c.version_of.ensures then c.put-2.ensures.puts }
