use Rattle.curves.proofs.ArcLaws.{arcs_end_at_last_lem}
use Rattle.curves.proofs.laws.arcs_end_at_last.Goals as goal

pub returns : goal.returns
returns c = arcs_end_at_last_lem
