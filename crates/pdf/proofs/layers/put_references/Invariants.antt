use Rattle.std.proofs.Common.{◌+◌, drop}
use Rattle.pdf.specs.Documents.{layers_text}
use Rattle.pieces.proofs.Texts.{Left}
use Rattle.pdf.proofs.layers.put_references.Given as goal

-- the references that are left
abbrev pub invariant-loop-index : goal.invariant-loop-index
invariant-loop-index g l = Left g.K.Sink.state l.fn.text l.text (layers_text (l.number + l.index) (drop l.index l.pens)) (layers_text l.number l.pens)
