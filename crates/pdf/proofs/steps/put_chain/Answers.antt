use Rattle.std.proofs.Common.{Option, ap, sym}
use Rattle.plot_page.specs.Segments.{Segment}
use Rattle.pdf.specs.Steps.{open_chain}
use Rattle.pdf.proofs.Contained.{fills_as, nothing}
use Rattle.pdf.proofs.steps.put_chain.Goals as goal

pub returns-in-None : goal.returns-in-None
returns-in-None g c =
    let runs = c.args.path.now.runs in
    record { fills = fills_as (nothing c.requires.open) (ap (λ (o : Option Segment). open_chain runs.rule o runs.last) (sym c.in-None.is)) }

pub returns-in-Some : goal.returns-in-Some
returns-in-Some g c =
    let runs = c.args.path.now.runs in
    record { fills = fills_as c.put_chain_from.ensures.fills (ap (λ (o : Option Segment). open_chain runs.rule o runs.last) (sym c.in-Some.is)) }
