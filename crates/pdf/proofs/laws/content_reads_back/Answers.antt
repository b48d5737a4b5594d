use Rattle.areas.specs.Views.{areas_in}
use Rattle.pdf.proofs.ContentLaw.{bytes_read}
use Rattle.pdf.proofs.laws.content_reads_back.Goals as goal

pub returns : goal.returns
returns c = bytes_read c.args.page.now c.args.pens.now c.args.strokes.now (areas_in c.args.areas) c.args.labels.now c.strokes_are_in_range.ensures c.read_labels.ensures
