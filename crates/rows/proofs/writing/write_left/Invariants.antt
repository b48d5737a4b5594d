use Rattle.std.proofs.Common.{◌≡◌, ◌≤◌, ◌-◌, ◌+◌, ◌*◌, Ok}
use Rattle.rows.specs.Progress.{WritesRows}
use Rattle.rows.specs.Watching.{WasTold}
use Rattle.rows.proofs.writing.write_left.Given as goal

-- the rows up to `at` were written, and the bands are those of the same picture
abbrev pub invariant-each : goal.invariant-each
invariant-each g l =
    let first = g.B.Bands.next l.fn.bands in
    record {
      so_far : WritesRows (g.B.Bands.row_text l.fn.bands (g.G.Gauge.reaches l.fn.gauge)) first first l.at l.done (g.K.Sink.state l.fn.sink) (g.K.Sink.state l.sink) (Ok l.written);
      text : g.B.Bands.row_text l.bands ≡ g.B.Bands.row_text l.fn.bands;
      ends : g.B.Bands.end l.bands ≡ g.B.Bands.end l.fn.bands;
      next : g.B.Bands.next l.bands ≡ l.at;
      from : first ≤ l.at;
      to : l.at ≤ l.end;
      most : l.end ≤ 619238;
      small : l.written ≤ 128 + l.at * 33554432;
      same : g.G.Gauge.reaches l.gauge ≡ g.G.Gauge.reaches l.fn.gauge;
      told : WasTold g.W.Watcher.hears (l.end - l.first) l.fn.watcher (l.at - l.first) l.watcher;
      tests : g.G.Gauge.count l.gauge + g.B.Bands.tests l.bands ≤ g.G.Gauge.count l.fn.gauge + g.B.Bands.tests l.fn.bands;
    }

abbrev pub decreases-each : goal.decreases-each
decreases-each g l = l.end - l.at
