use Rattle.areas.specs.Views.{areas_in}
use Rattle.dxf.proofs.DocumentReads.{document_read}
use Rattle.dxf.proofs.laws.dxf_reads_back.Goals as goal

pub returns : goal.returns
returns c = document_read c.args.page.now c.args.pens.now c.args.strokes.now (areas_in c.args.areas) c.args.labels.now c.strokes_are_in_range.ensures c.labels_are_readable.ensures
