use Rattle.std.proofs.Common.{◌+◌, ◌≤◌, min}
use Rattle.plot_page.specs.Segments.{Segment}
use Rattle.plot_page.specs.declared.dots.Dots.{Dots}
use Rattle.stroke_raster.specs.Covers.{covers}
use Rattle.stroke_raster.specs.Parts.{reached_in}
use Rattle.stroke_raster.specs.Tests.{MOST_TESTS}
use Rattle.stroke_raster.proofs.ReachedRows.{of_equals}
use Rattle.stroke_raster.proofs.gauge.ExactGauge.ink_rows.Goals as goal

pub returns-else-has_few_columns-clause-least : goal.returns-else-has_few_columns-clause-least
returns-else-has_few_columns-clause-least c =
    of_equals (λ (s : Segment) (d : Dots). min (c.args.self.now + reached_in (covers s c.args.page.now d) c.args.part c.args.columns) MOST_TESTS ≤ c.ink_each.new.self) c.trace_of-trace.ensures.stroke c.trace_of-trace.ensures.dots c.ink_each.ensures.least
