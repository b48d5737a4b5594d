use Rattle.std.proofs.Common.{◌≤◌, length}
use Rattle.pieces.proofs.Texts.{◌then◌, puts_as}
use Rattle.pdf.proofs.FontLists.{resources_whole, some_rows}
use Rattle.pdf.proofs.fonts.put_resources.Goals as goal

pub returns : goal.returns
returns g c =
    let rows = c.args.rows.now in
    let some : 1 ≤ length rows = some_rows rows (c.if-is_empty.ensures {u = tt}) in
    record { puts = puts_as (c.put.ensures.puts then c.put_names.ensures.puts then c.put-2.ensures.puts) (resources_whole c.args.encoding rows some) }
