use Rattle.std.proofs.Common.{rules}
use Rattle.pdf.proofs.Contained.{fills_as, nothing}
use Rattle.pdf.proofs.letters.put_row.Goals as goal

pub returns-in-Some : goal.returns-in-Some
returns-in-Some g c = record { fills = fills_as (nothing c.requires.open) (search rules) }
