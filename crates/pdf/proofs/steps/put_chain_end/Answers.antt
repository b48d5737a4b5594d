use Rattle.std.proofs.Common.{Option, ap, sym}
use Rattle.polygons.specs.declared.lines.Rule.{Rule}
use Rattle.pdf.specs.RunTexts.{chain_end_text}
use Rattle.pdf.proofs.Contained.{fills_as, nothing}
use Rattle.pdf.proofs.steps.put_chain_end.Goals as goal

pub returns-in-None : goal.returns-in-None
returns-in-None g c =
    record { fills = fills_as (nothing c.requires.open) (ap (λ (o : Option Rule). chain_end_text o c.args.first.now c.args.last.now) (sym c.in-None.is)) }

pub returns-in-Some : goal.returns-in-Some
returns-in-Some g c =
    record { fills = fills_as c.put_closing.ensures.fills (ap (λ (o : Option Rule). chain_end_text o c.args.first.now c.args.last.now) (sym c.in-Some.is)) }
