use Rattle.std.proofs.Common.{rules}
use Rattle.pdf.proofs.Contained.{fills_as, nothing}
use Rattle.pdf.proofs.numbers.put_sign.Goals as goal

pub returns-else-is_below : goal.returns-else-is_below
returns-else-is_below g c = record { fills = fills_as (nothing c.requires.open) (search rules) }
