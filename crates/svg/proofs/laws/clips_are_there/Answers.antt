use Rattle.areas.specs.Views.{areas_in}
use Rattle.areas.proofs.Apart.{apart_in}
use Rattle.svg.proofs.ClipLaw.{parts_clipped}
use Rattle.svg.proofs.laws.clips_are_there.Goals as goal

pub returns : goal.returns
returns c = parts_clipped c.args.page.now c.args.pens.now c.args.strokes.now (areas_in c.args.areas) c.args.labels.now (apart_in c.args.areas)
