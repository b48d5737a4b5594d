use Rattle.std.proofs.Common.{refl}
use Rattle.crc32.specs.Crc.{remainder}
use Rattle.crc32.proofs.crc.Crc.new.Goals as goal

pub returns : goal.returns
unfolding remainder
returns c = refl
