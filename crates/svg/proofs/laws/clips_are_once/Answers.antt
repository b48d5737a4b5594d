use Rattle.svg.proofs.ClipNames.{names_once}
use Rattle.svg.proofs.laws.clips_are_once.Goals as goal

pub returns : goal.returns
returns c = names_once c.args.page.now c.args.pens.now c.args.strokes.now c.strokes_are_in_range.ensures
