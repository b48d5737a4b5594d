use Rattle.areas.specs.Views.{areas_in}
use Rattle.pdf.proofs.ReadRuns.{content_read}
use Rattle.pdf.proofs.laws.content_is_shapes.Goals as goal

pub returns : goal.returns
returns c = content_read c.args.page.now c.args.pens.now c.args.strokes.now (areas_in c.args.areas) c.args.labels.now
