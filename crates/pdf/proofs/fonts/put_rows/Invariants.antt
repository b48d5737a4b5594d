use Rattle.std.proofs.Common.{take}
use Rattle.pdf.specs.Documents.{row_objects}
use Rattle.pdf.specs.Writings.{Adds}
use Rattle.pdf.proofs.fonts.put_rows.Given as goal

-- the fonts so far
abbrev pub invariant-loop-index : goal.invariant-loop-index
invariant-loop-index g l = Adds g.K.Sink.state l.fn.text l.text l.fn.offsets l.offsets l.encoding (row_objects l.encoding l.encoding (take l.index l.rows))
