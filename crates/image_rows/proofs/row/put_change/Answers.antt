use Rattle.std.proofs.Common.{◌+◌, ◌<◌, length, ap, sym, refl, arith}
use Rattle.image_rows.specs.Rows.{sized}
use Rattle.image_rows.specs.Views.{bytes_of}
use Rattle.image_rows.proofs.Steps.{going_on_empty}
use Rattle.image_rows.proofs.Loops.{row_from, ending_from, long_from}
use Rattle.image_rows.proofs.row.put_change.Goals as goal

pub returns-then-count-eq0-clause-row : goal.returns-then-count-eq0-clause-row
returns-then-count-eq0-clause-row c = λ more.
    ap (sized c.args.size) (sym (going_on_empty c.args.plane.now.items c.args.place c.args.change.now.skip (bytes_of c.args.change.now.bytes) c.args.change.now.is_broken more (omega (arith, c.count.ensures, c.if-count-eq0.true))))

pub returns-clause-row : goal.returns-clause-row
returns-clause-row c =
    let some : 0 < length (bytes_of c.args.change.now.bytes) = omega (arith, c.count.ensures, c.if-count-eq0.false) in
    row_from c.put.result c.args.size c.args.plane.now.items c.put.new.plane.items c.args.place c.args.change.now.skip (c.args.place + c.args.change.now.skip) (bytes_of c.args.change.now.bytes) c.args.change.now.is_broken
    c.requires.begun some c.requires.within refl c.requires.room c.put.ensures.row c.put.ensures.end c.put.ensures.not_far

pub returns-clause-ending : goal.returns-clause-ending
returns-clause-ending c =
    let some : 0 < length (bytes_of c.args.change.now.bytes) = omega (arith, c.count.ensures, c.if-count-eq0.false) in
    ending_from c.put.result c.args.size c.args.place c.args.change.now.skip (c.args.place + c.args.change.now.skip) (bytes_of c.args.change.now.bytes) some refl c.put.ensures.end c.put.ensures.not_far

pub returns-clause-long : goal.returns-clause-long
returns-clause-long c = λ e more.
    let some : 0 < length (bytes_of c.args.change.now.bytes) = omega (arith, c.count.ensures, c.if-count-eq0.false) in
    long_from c.args.size c.args.plane.now.items c.args.place c.args.change.now.skip (c.args.place + c.args.change.now.skip) (bytes_of c.args.change.now.bytes) c.args.change.now.is_broken
    some c.requires.within refl (c.put.ensures.far e) more
