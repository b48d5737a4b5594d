use Rattle.std.proofs.Common.{◌∙◌, ap, sym}
use Rattle.areas.specs.Walks.{shape_in}
use Rattle.areas.specs.declared.walk.NextShape.{NextShape}
use Rattle.page_fit.specs.Shapes.{counted_all}
use Rattle.page_fit.proofs.ShapeCounts.{one_counted}
use Rattle.page_fit.proofs.census.Census.with_shape.Goals as goal

pub returns-in-Stroke-clause-value : goal.returns-in-Stroke-clause-value
returns-in-Stroke-clause-value c =
    c.with.ensures.value ∙ one_counted c.args.pens.now c.args.page.now c.args.self c.in-Stroke.stroke.now
    ∙ ap (λ (shape : NextShape). counted_all c.args.pens.now c.args.page.now c.args.self (shape_in shape).strokes) (sym c.in-Stroke.is)
