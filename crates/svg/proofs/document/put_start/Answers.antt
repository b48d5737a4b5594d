use Rattle.pieces.proofs.Texts.{◌then◌}
use Rattle.svg.proofs.document.put_start.Goals as goal

pub returns : goal.returns
returns g c = record { puts = c.put_head.ensures.puts then c.put_clips.ensures.puts }
