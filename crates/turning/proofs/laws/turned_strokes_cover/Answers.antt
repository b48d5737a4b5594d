use Rattle.turning.proofs.Shown.{strokes_cover}
use Rattle.turning.proofs.laws.turned_strokes_cover.Goals as goal

pub returns : goal.returns
returns c = strokes_cover
