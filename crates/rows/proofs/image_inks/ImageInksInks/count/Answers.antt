use Rattle.std.proofs.Common.{sym}
use Rattle.rows.proofs.ImageCells.{inks_count}
use Rattle.rows.proofs.image_inks.ImageInksInks.count.Goals as goal

pub returns : goal.returns
returns c = sym (inks_count 2164260863 c.args.self.now.strokes.now)
