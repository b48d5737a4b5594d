use Rattle.plotraster.proofs.Said.{one_remark}
use Rattle.plotraster.proofs.remarks.tell_sheets.Goals as goal

pub returns-then-has_more_sheets : goal.returns-then-has_more_sheets
returns-then-has_more_sheets g c = one_remark g.V.Voice.does _ _ _ c.remark.ensures
