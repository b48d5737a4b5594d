use Rattle.std.proofs.Common.{ap, sym}
use Rattle.pieces.proofs.Texts.{puts_as}
use Rattle.pdf.specs.Documents.{user_unit}
use Rattle.pdf.proofs.pages.put_user_unit.Goals as goal

pub returns-in-Two : goal.returns-in-Two
returns-in-Two g c = record { puts = puts_as c.put.ensures.puts (ap user_unit (sym c.in-Two.is)) }

pub returns-in-Three : goal.returns-in-Three
returns-in-Three g c = record { puts = puts_as c.put-in-Three.ensures.puts (ap user_unit (sym c.in-Three.is)) }
