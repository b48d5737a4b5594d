use Rattle.std.proofs.Common.{length, ◌-◌, ◌*◌, ◌≡◌, ◌≤◌, take, drop}
use Rattle.std.specs.Io.KnownBytes.{Appends}
use Rattle.picture_out.specs.Marks.{marks_from}
use Rattle.picture_out.proofs.marks.put_lines.Given as goal

-- the first `done` bytes of all the lines were appended, and the lines of the cells that are left follow
abbrev pub invariant-loop-column : goal.invariant-loop-column
invariant-loop-column g l =
    let inks = g.I.Inks.inks l.inks in
    let all = marks_from l.row 0 inks l.cells in
    record {
      column_in : l.column ≤ l.span.end;
      size : length l.piece ≡ length l.fn.piece;
      rest : drop l.done all ≡ marks_from l.row l.column inks (drop l.column l.cells);
      so_far : Appends (g.K.Sink.state l.fn.sink).held (g.K.Sink.state l.sink).held (take l.done all);
      within : l.done ≤ length all;
      small : l.done ≤ 33 * l.column;
      quiet : (g.K.Sink.state l.sink).faults ≡ (g.K.Sink.state l.fn.sink).faults;
    }

abbrev pub decreases-loop-column : goal.decreases-loop-column
decreases-loop-column g l = l.span.end - l.column
