use Rattle.std.proofs.Common.{◌∙◌, ap₂}
use Rattle.plot_page.specs.Segments.{Segment}
use Rattle.plot_page.specs.declared.dots.Dots.{Dots}
use Rattle.stroke_raster.specs.Boxes.{in_box}
use Rattle.stroke_raster.proofs.gauge.Gauge.ink_rows.Goals as goal

pub returns-clause-bits : goal.returns-clause-bits
returns-clause-bits g c = rw (c.trace_of-trace.ensures.stroke, c.trace_of-trace.ensures.dots) at c.ink_each.ensures.bits

pub returns-clause-least : goal.returns-clause-least
returns-clause-least g c = rw (c.trace_of-trace.ensures.stroke, c.trace_of-trace.ensures.dots) at c.ink_each.ensures.least

pub ink_each-requires-clause-boxed : goal.ink_each-requires-clause-boxed
ink_each-requires-clause-boxed g c =
    λ row k x y a b.
    ap₂ (λ (s : Segment) (d : Dots). in_box s c.args.page.now d row k) c.trace_of-trace.ensures.stroke c.trace_of-trace.ensures.dots ∙ c.requires.boxed row k x y a b
