use Rattle.std.proofs.Common.{drop}
use Rattle.pdf.proofs.Contained.{Remains}
use Rattle.pdf.proofs.content.PageContent.put_on.Given as goal

-- the bytes that are left
abbrev pub invariant-loop-byte : goal.invariant-loop-byte
invariant-loop-byte g l = Remains g.K.Sink.state l.fn.document l.document l.fn.self l.self (drop l.byte-index l.bytes) l.bytes
