use Rattle.pieces.proofs.Texts.{◌then◌}
use Rattle.pieces.proofs.text.Text.put_on.Goals as goal

pub returns-then-bytes-gt-ROOM : goal.returns-then-bytes-gt-ROOM
returns-then-bytes-gt-ROOM g c = record { puts = c.flush.ensures.puts then c.hand.ensures.puts }

pub returns-else-bytes-gt-ROOM : goal.returns-else-bytes-gt-ROOM
returns-else-bytes-gt-ROOM g c = record { puts = c.flush.ensures.puts then c.keep.ensures.puts }
