use Rattle.std.proofs.Common.{Option, ap, sym}
use Rattle.polygons.specs.declared.lines.Rule.{Rule}
use Rattle.pdf.specs.RunTexts.{fill_text}
use Rattle.pdf.proofs.Contained.{fills_as, nothing, ◌next◌}
use Rattle.pdf.proofs.paths.put_fill.Goals as goal

pub returns-in-None : goal.returns-in-None
returns-in-None g c = record { fills = fills_as (nothing c.requires.open) (ap (λ (o : Option Rule). fill_text o c.args.colour) (sym c.in-None.is)) }

pub returns-in-Some : goal.returns-in-Some
returns-in-Some g c = record {
  fills = fills_as (c.put_parts.ensures.fills next c.put.ensures.fills) (ap (λ (o : Option Rule). fill_text o c.args.colour) (sym c.in-Some.is));
}
