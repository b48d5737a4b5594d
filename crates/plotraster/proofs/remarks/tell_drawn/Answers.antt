use Rattle.plotraster.proofs.Said.{one_remark}
use Rattle.plotraster.proofs.remarks.tell_drawn.Goals as goal

pub returns-in-Some : goal.returns-in-Some
returns-in-Some g c = one_remark g.V.Voice.does _ _ _ c.remark.ensures
