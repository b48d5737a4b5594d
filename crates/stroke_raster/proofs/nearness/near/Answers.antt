use Rattle.std.proofs.Common.{sym, ap, ◌∙◌}
use Rattle.stroke_raster.specs.declared.vector.Vector.{Vector}
use Rattle.stroke_raster.specs.Covers.{covers_place}
use Rattle.stroke_raster.specs.Traces.{is_near}
use Rattle.stroke_raster.proofs.RunLemmas.{near_place}
use Rattle.stroke_raster.proofs.nearness.near.Goals as goal

pub returns-then-is_in_window : goal.returns-then-is_in_window
returns-then-is_in_window c =
    let t = c.trace_of-trace.result in
    let w = sym c.is_in_window.ensures ∙ c.if-is_in_window.true in
    c.meets_any.ensures ∙ ap (λ (z : Vector). is_near t z) c.way_between.ensures
    ∙ near_place t c.args.stroke.now c.args.dots c.centre_of-place.result c.trace_of-trace.ensures.stroke c.trace_of-trace.ensures.dots w
    ∙ ap (λ (z : Vector). covers_place c.args.stroke.now c.args.dots.resolution z) c.centre_of-place.ensures.value
