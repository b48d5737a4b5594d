use Rattle.std.proofs.Common.{arith}
use Rattle.crc32.proofs.Eights.{after_eight}
use Rattle.crc32.proofs.crc.after_eight.Goals as goal

pub returns : goal.returns
returns c =
    after_eight c.args.remainder c.to_le_bytes-low.result c.args.bytes.now _ _ _ _ _ _ _ _ (omega arith) c.to_le_bytes-low.ensures c.requires
    c.entry.ensures c.entry-2.ensures c.entry-3.ensures c.entry-4.ensures c.entry-5.ensures c.entry-6.ensures c.entry-7.ensures c.entry-8.ensures
