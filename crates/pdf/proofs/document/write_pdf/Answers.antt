use Rattle.std.proofs.Common.{ap, rules}
use Rattle.pdf.proofs.AddedPages.{pdf_as}
use Rattle.pdf.proofs.document.write_pdf.Goals as goal

pub returns : goal.returns
returns g c = record { writes = pdf_as (ap g.K.Sink.state c.new-text.ensures.sink) (search rules) c.put_document.ensures.writes }
