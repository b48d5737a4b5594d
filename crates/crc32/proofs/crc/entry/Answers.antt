use Rattle.std.proofs.Common.{arith}
use Rattle.crc32.proofs.Division.{in_table}
use Rattle.crc32.proofs.crc.entry.Goals as goal

pub returns : goal.returns
returns c = in_table c.args.following c.args.byte c.requires (omega arith)
