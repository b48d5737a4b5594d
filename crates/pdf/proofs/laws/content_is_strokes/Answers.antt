use Rattle.pdf.proofs.ReadRuns.{strokes_read}
use Rattle.pdf.proofs.laws.content_is_strokes.Goals as goal

pub returns : goal.returns
returns c = strokes_read c.args.page.now c.args.pens.now c.args.strokes.now c.args.labels.now
