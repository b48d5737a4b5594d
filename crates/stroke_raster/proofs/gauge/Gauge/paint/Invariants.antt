use Rattle.std.proofs.Common.{◌≡◌, ℕ, ◌+◌, ◌<◌, ◌≤◌, cond, get_or, min}
use Rattle.stroke_raster.specs.Tests.{reached, MOST_TESTS}
use Rattle.stroke_raster.proofs.gauge.Gauge.paint.Given as goal

-- the pixels so far are asked, the others are as they were
abbrev pub invariant-loop-i : goal.invariant-loop-i
invariant-loop-i g l =
    let reaches = g.Self.Gauge.reaches in
    let count = g.Self.Gauge.count in
    record {
      done : (k : ℕ) → k < l.i → get_or l.cells k 0 ≡ cond (reaches l.fn.self l.trace.stroke.now l.page l.trace.dots l.row (l.from + k)) l.position (get_or l.fn.cells k 0);
      rest : (k : ℕ) → l.i ≤ k → get_or l.cells k 0 ≡ get_or l.fn.cells k 0;
      same : reaches l.self ≡ reaches l.fn.self;
      least : min (count l.fn.self + reached (reaches l.fn.self l.trace.stroke.now l.page l.trace.dots l.row) l.from l.i) MOST_TESTS ≤ count l.self;
      most : count l.self ≤ count l.fn.self + l.i;
      grows : count l.fn.self ≤ count l.self;
    }
