use Rattle.std.proofs.Common.{rules}
use Rattle.pdf.proofs.Contained.{fills_as, nothing}
use Rattle.pdf.proofs.letters.put_end.Goals as goal

pub returns-then-is_none : goal.returns-then-is_none
returns-then-is_none g c = record { fills = fills_as (nothing c.requires.open) (search rules) }
