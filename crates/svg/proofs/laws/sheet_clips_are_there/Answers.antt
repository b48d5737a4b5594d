use Rattle.areas.specs.Views.{areas_in}
use Rattle.areas.proofs.Apart.{apart_in}
use Rattle.svg.proofs.ClipLaw.{sheets_clipped}
use Rattle.svg.proofs.laws.sheet_clips_are_there.Goals as goal

pub returns : goal.returns
returns c = sheets_clipped c.args.page.now c.args.pens.now c.args.strokes.now (areas_in c.args.areas) c.args.ends.now c.args.labels.now (apart_in c.args.areas)
