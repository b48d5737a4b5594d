use Rattle.std.proofs.Common.{◌≡◌, ℕ, ◌+◌, ◌-◌, ◌*◌, ◌/◌, ◌%◌, ◌<◌, ◌≤◌, ◌&&◌, nat_lt, cond, length, get_or, min}
use Rattle.stroke_raster.specs.Spans.{Spanned}
use Rattle.stroke_raster.specs.Tests.{MOST_TESTS, reached_pixels}
use Rattle.stroke_raster.proofs.cells.CellsCanvas.paint.Given as goal

-- the stroke's part of the rows so far is painted
abbrev pub invariant-loop-row : goal.invariant-loop-row
invariant-loop-row g l =
    let reaches = g.G.Gauge.reaches in
    let count = g.G.Gauge.count in
    let covers = reaches l.fn.gauge l.stroke l.page l.fn.dots in
    let old = l.fn.self.cells.items in
    record {
      painted : (q : ℕ) → q < length old → get_or l.cells q 0 ≡ cond (nat_lt (l.first + q / l.columns) l.row && covers (l.first + q / l.columns) (q % l.columns)) l.position (get_or old q 0);
      same : reaches l.gauge ≡ reaches l.fn.gauge;
      least : min (count l.fn.gauge + reached_pixels covers l.low (l.row - l.low) l.from (l.upto - l.from)) MOST_TESTS ≤ count l.gauge;
      most : count l.gauge ≤ count l.fn.gauge + (l.row - l.low) * (l.upto - l.from);
      spanned : Spanned l.columns l.spans l.cells;
      grows : count l.fn.gauge ≤ count l.gauge;
    }
