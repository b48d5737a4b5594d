use Rattle.std.proofs.Common.{length, ◌-◌, ◌+◌, ◌*◌, ◌≡◌, ◌≤◌, ◌++◌, take, drop}
use Rattle.picture_out.specs.Marks.{marks_from}
use Rattle.picture_out.proofs.marks.fill.Given as goal

-- the lines so far, and then those of the cells that are left, are all the lines
abbrev pub invariant-loop-next : goal.invariant-loop-next
invariant-loop-next g l =
    let inks = g.I.Inks.inks l.inks in
    record {
      from : l.from ≤ l.next;
      within : l.next ≤ l.end;
      fits : l.length ≤ length l.piece;
      most : l.length + 33 * l.from ≤ 33 * l.next;
      size : length l.piece ≡ length l.fn.piece;
      lines : take l.length l.piece ++ marks_from l.row l.next inks (drop l.next l.cells) ≡ marks_from l.row l.from inks (drop l.from l.cells);
    }

abbrev pub decreases-loop-next : goal.decreases-loop-next
decreases-loop-next g l = l.end - l.next
