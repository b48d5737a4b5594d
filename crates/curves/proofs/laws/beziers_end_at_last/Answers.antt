use Rattle.curves.proofs.BezierLaws.{beziers_end_at_last_lem}
use Rattle.curves.proofs.laws.beziers_end_at_last.Goals as goal

pub returns : goal.returns
returns c = beziers_end_at_last_lem
