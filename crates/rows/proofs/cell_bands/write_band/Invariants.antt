use Rattle.std.proofs.Common.{◌≡◌, ◌≤◌, ◌+◌, ◌-◌, ◌*◌, take, drop, length}
use Rattle.std.specs.Io.KnownBytes.{Appends}
use Rattle.stroke_raster.specs.Bands.{first_of, rows_of_band}
use Rattle.rows.specs.Progress.{rows_text}
use Rattle.rows.proofs.cell_bands.write_band.Given as goal

-- the rows so far were appended, and the others follow
abbrev pub invariant-loop-i : goal.invariant-loop-i
invariant-loop-i g l =
    let rows = rows_of_band l.band in
    let at = first_of l.band in
    let all = rows_text l.form (g.I.Inks.inks l.inks) at rows in
    record {
      rest : drop (l.written - l.done) all ≡ rows_text l.form (g.I.Inks.inks l.inks) (at + l.i) (drop l.i rows);
      before : l.written ≡ l.done + length (rows_text l.form (g.I.Inks.inks l.inks) at (take l.i rows));
      so_far : Appends (g.K.Sink.state l.fn.sink).held (g.K.Sink.state l.sink).held (take (l.written - l.done) all);
      within : l.written - l.done ≤ length all;
      from : l.done ≤ l.written;
      small : l.written ≤ l.done + l.i * 33554432;
      quiet : (g.K.Sink.state l.sink).faults ≡ (g.K.Sink.state l.fn.sink).faults;
    }
