use Rattle.std.proofs.Common.{rules}
use Rattle.pdf.proofs.Contained.{fills_as, nothing}
use Rattle.pdf.proofs.paths.put_clip.Goals as goal

pub returns-else-not-is_whole_page : goal.returns-else-not-is_whole_page
returns-else-not-is_whole_page g c = record { fills = fills_as (nothing c.requires.open) (search rules) }
