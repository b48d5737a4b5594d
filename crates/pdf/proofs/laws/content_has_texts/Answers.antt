use Rattle.areas.specs.Views.{areas_in}
use Rattle.pdf.proofs.ReadTexts.{content_texts}
use Rattle.pdf.proofs.laws.content_has_texts.Goals as goal

pub returns : goal.returns
returns c = content_texts c.args.page.now c.args.pens.now c.args.strokes.now (areas_in c.args.areas) c.args.labels.now
