use Rattle.turning.proofs.Shown.{pages_show}
use Rattle.turning.proofs.laws.turned_pages_show.Goals as goal

pub returns : goal.returns
returns c = pages_show
