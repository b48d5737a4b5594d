use Rattle.std.proofs.Common.{◌≡◌, ◌<◌, ◌≤◌, ◌+◌, ◌*◌, ℕ, List, [], length, map, get_or, Ok}
use Rattle.stroke_raster.specs.Bands.{first_of, rows_of_band}
use Rattle.png.specs.Packing.{packed_samples}
use Rattle.rows.specs.Palettes.{number_of, numbers_bytes}
use Rattle.rows.specs.Progress.{WritesRows}
use Rattle.rows.proofs.number_bands.write_numbers.Given as goal

-- the rows so far were written
abbrev pub invariant-loop-i : goal.invariant-loop-i
invariant-loop-i g l =
    let rows = rows_of_band l.band in
    let at = first_of l.band in
    let depth = l.fn.bytes.depth in
    let columns = l.fn.bytes.columns in
    record {
      so_far : (row : ℕ → List ℕ) → ((k : ℕ) → k < length rows → row (at + k) ≡ packed_samples depth (numbers_bytes depth columns) (map (number_of l.numbers) (get_or rows k [])))
          → WritesRows row l.first at (at + l.i) l.done (g.K.Sink.state l.fn.sink) (g.K.Sink.state l.sink) (Ok l.written);
      small : l.written ≤ l.done + l.i * 33554432;
      quiet : (g.K.Sink.state l.sink).faults ≡ (g.K.Sink.state l.fn.sink).faults;
      depth : l.bytes.depth ≡ depth;
      columns : l.bytes.columns ≡ columns;
    }
