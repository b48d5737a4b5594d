use Rattle.plotraster.proofs.Said.{remarks_append}
use Rattle.plotraster.proofs.remarks.tell_outcome.Goals as goal

pub returns : goal.returns
returns g c =
    let does = g.V.Voice.does in
    remarks_append does _ _ _ c.tell_page.ensures (remarks_append does _ _ _ c.tell_notes.ensures (remarks_append does _ _ _ c.tell_sheets.ensures c.tell_drawn.ensures))
