use Rattle.std.proofs.Common.{bit_xor}
use Rattle.crc32.proofs.Division.{by_table}
use Rattle.crc32.proofs.crc.after_byte.Goals as goal

pub returns : goal.returns
returns c = by_table (bit_xor c.args.remainder c.args.byte)
