use Rattle.std.proofs.Common.{◌≡◌, take}
use Rattle.crc32.specs.Crc.{remainder}
use Rattle.crc32.proofs.crc.after_bytes.Given as goal

-- the remainder after the bytes so far
abbrev pub invariant-loop-byte : goal.invariant-loop-byte
invariant-loop-byte l = l.result ≡ remainder l.fn.remainder (take l.byte-index l.bytes)
