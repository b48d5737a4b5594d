use Rattle.std.proofs.Common.{ap}
use Rattle.plot_page.specs.Segments.{Segment}
use Rattle.pdf.specs.RunTexts.{fill_text}
use Rattle.pdf.proofs.Contained.{fills_as, ◌next◌}
use Rattle.pdf.proofs.steps.put_begun.Goals as goal

pub returns : goal.returns
returns g c =
    let fill = fills_as c.put_fill.ensures.fills (ap (λ (s : Segment). fill_text c.args.rule s.colour) c.stroke.view_is) in
    record { fills = c.put_start.ensures.fills next fill next c.put_stroke.ensures.fills }
