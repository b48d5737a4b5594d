use Rattle.std.proofs.Common.{get_or, ap, refl}
use Rattle.std.proofs.lemmas.List.{take_all}
use Rattle.pdf.specs.Documents.{row_objects}
use Rattle.pdf.proofs.AddedObjects.{added_as, added_more, nothing_added}
use Rattle.pdf.proofs.FontLists.{rows_more, rows_so_far}
use Rattle.pdf.proofs.fonts.put_rows.Goals as goal

pub loop-index-init : goal.loop-index-init
loop-index-init g c = nothing_added c.requires.sound

pub loop-index-preserved : goal.loop-index-preserved
loop-index-preserved g c =
    let rows = c.args.rows.now in
    let l = c.loop-index in
    added_as (added_more l.invariant c.put_row.ensures.adds (rows_so_far c.args.encoding rows l.index c.loop-index-test.true))
    (rows_more c.args.encoding rows l.index (get_or rows l.index 0) c.loop-index-test.true refl)

pub returns : goal.returns
returns g c =
    let l = c.loop-index in
    record { adds = added_as l.invariant (ap (row_objects c.args.encoding c.args.encoding) (take_all l.index c.args.rows.now c.loop-index-test.false)) }
