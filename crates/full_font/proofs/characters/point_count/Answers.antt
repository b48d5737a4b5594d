use Rattle.std.proofs.Common.{sym}
use Rattle.full_font.proofs.Polylines.{length-points}
use Rattle.full_font.proofs.characters.point_count.Goals as goal

pub returns : goal.returns
returns c = sym (length-points c.args.line.now)
