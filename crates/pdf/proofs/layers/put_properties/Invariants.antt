use Rattle.std.proofs.Common.{◌+◌, drop}
use Rattle.pdf.specs.Documents.{properties_text}
use Rattle.pieces.proofs.Texts.{Left}
use Rattle.pdf.proofs.layers.put_properties.Given as goal

-- the references that are left
abbrev pub invariant-loop-index : goal.invariant-loop-index
invariant-loop-index g l = Left g.K.Sink.state l.fn.text l.text (properties_text (l.number + l.index) (drop l.index l.pens)) (properties_text l.number l.pens)
