use Rattle.plotraster.proofs.Said.{one_remark}
use Rattle.plotraster.proofs.remarks.tell_nothing.Goals as goal

pub returns-then-line : goal.returns-then-line
returns-then-line g c = one_remark g.V.Voice.does _ _ _ c.remark.ensures
