use Rattle.std.proofs.Common.{ap}
use Rattle.plot_page.specs.Segments.{Segment}
use Rattle.pdf.specs.Operators.{colour_text}
use Rattle.pdf.specs.RunTexts.{layer_text}
use Rattle.pdf.proofs.Contained.{fills_as, ◌next◌}
use Rattle.pdf.proofs.paths.put_start.Goals as goal

pub returns : goal.returns
returns g c =
    let layer = fills_as c.put_layer.ensures.fills (ap (λ (s : Segment). layer_text s.pen) c.stroke.view_is) in
    let colour = fills_as c.put_colour.ensures.fills (ap (λ (s : Segment). colour_text s.colour) c.stroke.view_is) in
    record { fills = layer next c.put_clip.ensures.fills next colour next c.put_width.ensures.fills }
