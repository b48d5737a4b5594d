use Rattle.std.proofs.Common.{rules}
use Rattle.pdf.proofs.Contained.{fills_as, nothing}
use Rattle.pdf.proofs.steps.put_closing.Goals as goal

pub returns-else-leads_back : goal.returns-else-leads_back
returns-else-leads_back g c = record { fills = fills_as (nothing c.requires.open) (search rules) }
