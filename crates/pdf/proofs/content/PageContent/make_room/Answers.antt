use Rattle.std.proofs.Common.{arith}
use Rattle.pdf.proofs.Contained.{nothing}
use Rattle.pdf.proofs.content.PageContent.make_room.Goals as goal

pub returns-then-is_full : goal.returns-then-is_full
returns-then-is_full g c = record { fills = c.hand_on.ensures.fills; room = omega (arith, c.hand_on.ensures.room) }

pub returns-else-is_full-clause-fills : goal.returns-else-is_full-clause-fills
returns-else-is_full-clause-fills g c = nothing c.requires.open
