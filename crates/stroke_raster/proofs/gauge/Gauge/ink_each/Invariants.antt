use Rattle.std.proofs.Common.{◌≡◌, ◌+◌, ◌-◌, ◌*◌, ◌≤◌, min}
use Rattle.stroke_raster.specs.Parts.{ArePartInked, reached_in}
use Rattle.stroke_raster.specs.Tests.{MOST_TESTS}
use Rattle.stroke_raster.proofs.gauge.Gauge.ink_each.Given as goal

-- the rows of the part so far are inked
abbrev pub invariant-loop-row : goal.invariant-loop-row
invariant-loop-row g l =
    let reaches = g.Self.Gauge.reaches in
    let count = g.Self.Gauge.count in
    record {
      inked : ArePartInked (reaches l.fn.self l.trace.stroke.now l.page l.trace.dots) l.layout (record { low = l.fn.part.low; end = l.row }) l.columns l.fn.bits l.bits;
      same : reaches l.self ≡ reaches l.fn.self;
      least : min (count l.fn.self + reached_in (reaches l.fn.self l.trace.stroke.now l.page l.trace.dots) (record { low = l.fn.part.low; end = l.row }) l.columns) MOST_TESTS ≤ count l.self;
      most : count l.self ≤ count l.fn.self + (l.row - l.fn.part.low) * (l.columns.end - l.columns.low);
      grows : count l.fn.self ≤ count l.self;
    }
