use Rattle.std.proofs.Common.{◌≤◌, length, refl}
use Rattle.pdf.proofs.AddedObjects.{added_as, added_more}
use Rattle.pdf.proofs.FontLists.{fonts_whole, some_rows}
use Rattle.pdf.proofs.fonts.put_fonts.Goals as goal

pub returns : goal.returns
returns g c =
    let rows = c.args.rows.now in
    let some : 1 ≤ length rows = some_rows rows (c.if-is_empty.ensures {u = tt}) in
    record { adds = added_as (added_more c.put_encoding.ensures.adds c.put_rows.ensures.adds refl) (fonts_whole c.args.before rows some) }
