use Rattle.plotraster.proofs.Said.{one_remark}
use Rattle.plotraster.proofs.remarks.tell_notes.Goals as goal

pub returns-then-is_hardly_understood : goal.returns-then-is_hardly_understood
returns-then-is_hardly_understood g c = one_remark g.V.Voice.does _ _ _ c.remark.ensures
