use Rattle.std.proofs.Common.{◌≡◌, ◌++◌, ◌≤◌, ◌∙◌, [], length, take, drop, ap, arith, refl}
use Rattle.std.proofs.lemmas.List.{length-drop, length-take-le}
use Rattle.picture_out.specs.Marks.{marks_from}
use Rattle.devices.proofs.KnownBytes.{written_part, cut_next, written_all, begins_with, Appends-none}
use Rattle.picture_out.proofs.Lines.{marks_before, marks_after}
use Rattle.picture_out.proofs.marks.put_lines.Goals as goal

pub loop-column-init : goal.loop-column-init
loop-column-init g c =
    let inks = g.I.Inks.inks c.args.inks.now in
    record {
      column_in = c.requires.span.order;
      size = refl;
      rest = marks_before c.args.row.now inks c.args.cells.now c.args.span.low c.args.span.end c.requires.span;
      so_far = Appends-none (g.K.Sink.state c.args.sink.now).held [] refl;
      within = omega arith;
      small = omega arith;
      quiet = refl;
    }

pub returns-in-Err-clause-writes : goal.returns-in-Err-clause-writes
returns-in-Err-clause-writes g c =
    let inks = g.I.Inks.inks c.args.inks.now in
    let all = marks_from c.args.row.now 0 inks c.args.cells.now in
    let lines = c.fill-lines.result in
    let piece = take lines.length c.fill-lines.new.piece in
    let rest = marks_from c.args.row.now lines.next inks (drop lines.next c.args.cells.now) in
    let split : drop c.loop-column.done all ≡ piece ++ rest = begins_with _ piece rest _ c.loop-column.invariant.rest c.fill-lines.ensures.lines in
    cut_next _ _ _ _ _ _ all piece rest c.loop-column.done _ _ split c.loop-column.invariant.within c.loop-column.invariant.so_far c.loop-column.invariant.quiet c.in-Err.ensures.writes c.after.ensures

pub loop-column-preserved : goal.loop-column-preserved
loop-column-preserved g c =
    let inks = g.I.Inks.inks c.args.inks.now in
    let all = marks_from c.args.row.now 0 inks c.args.cells.now in
    let lines = c.fill-lines.result in
    let piece = take lines.length c.fill-lines.new.piece in
    let rest = marks_from c.args.row.now lines.next inks (drop lines.next c.args.cells.now) in
    let split : drop c.loop-column.done all ≡ piece ++ rest = begins_with _ piece rest _ c.loop-column.invariant.rest c.fill-lines.ensures.lines in
    let long : length piece ≡ lines.length = length-take-le lines.length c.fill-lines.new.piece c.fill-lines.ensures.fits in
    let next = written_part _ _ _ _ _ _ all piece rest c.loop-column.done lines.length long split c.loop-column.invariant.within c.loop-column.invariant.so_far c.loop-column.invariant.quiet (c.in-Ok.ensures {u = tt}).writes in
    record {
      column_in = c.fill-lines.ensures.within;
      size = omega arith;
      rest = next.2;
      so_far = next.0;
      within = next.3;
      small = omega (arith, c.loop-column.invariant.small, c.fill-lines.ensures.most);
      quiet = next.1;
    }

pub returns : goal.returns
returns g c =
    let inks = g.I.Inks.inks c.args.inks.now in
    let all = marks_from c.args.row.now 0 inks c.args.cells.now in
    let at_end : c.args.span.end ≤ c.loop-column.column = omega (arith, c.loop-column-test.false) in
    let left : drop c.loop-column.done all ≡ [] = c.loop-column.invariant.rest ∙ marks_after c.args.row.now inks c.args.cells.now c.args.span.low c.args.span.end c.loop-column.column c.requires.span at_end in
    record {
      writes = (written_all _ _ all c.loop-column.done left c.loop-column.invariant.so_far, c.loop-column.invariant.quiet);
      count = omega (arith, ap length left, length-drop c.loop-column.done all, c.loop-column.invariant.within);
      small = omega (arith, c.loop-column.invariant.small, c.loop-column.invariant.column_in, c.requires.span.high);
    }
