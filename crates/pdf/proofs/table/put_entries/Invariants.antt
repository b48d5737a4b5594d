use Rattle.std.proofs.Common.{drop}
use Rattle.pdf.specs.Objects.{entries_text}
use Rattle.pieces.proofs.Texts.{Left}
use Rattle.pdf.proofs.table.put_entries.Given as goal

-- the lines that are left
abbrev pub invariant-loop-offset : goal.invariant-loop-offset
invariant-loop-offset g l = Left g.K.Sink.state l.fn.text l.text (entries_text (drop l.offset-index l.offsets)) (entries_text l.offsets)
