use Rattle.std.proofs.Common.{◌∙◌, ◌+◌, ◌-◌, ◌≤◌, length, sym, arith}
use Rattle.image_rows.specs.Views.{bytes_of}
use Rattle.image_rows.proofs.Written.{written, part_is}
use Rattle.image_rows.proofs.Loops.{end_order}
use Rattle.image_rows.proofs.row.put.Goals as goal

pub returns-clause-row : goal.returns-clause-row
returns-clause-row c =
    let filled = c.deref_mut.ensures.value ∙ c.in_ok-lengthen.ensures.row in
    let order = end_order c.args.size c.args.at c.count.result c.in_ok-end.end c.requires.room c.in_ok-end.ensures.end c.in_ok-end.ensures.not_far in
    let first : c.args.at ≤ c.in_ok-end.end = order.0 in
    let last : c.in_ok-end.end ≤ c.args.at + length (bytes_of c.args.bytes.now) = omega (arith, order.1, c.count.ensures) in
    written c.lengthen.new.plane.len c.args.at c.in_ok-end.end c.args.plane.now.items c.deref_mut.result.now c.lengthen.new.plane.items c.put.new.part (bytes_of c.args.bytes.now)
    filled first (part_is c.args.at c.in_ok-end.end c.args.plane.now.items c.deref_mut.result.now c.put.new.part (bytes_of c.args.bytes.now) filled first c.put.ensures)
    last (sym c.deref_mut.ensures.len)
