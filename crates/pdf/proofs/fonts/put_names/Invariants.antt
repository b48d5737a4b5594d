use Rattle.std.proofs.Common.{◌+◌, ◌*◌, drop}
use Rattle.pdf.specs.Documents.{fonts_text}
use Rattle.pieces.proofs.Texts.{Left}
use Rattle.pdf.proofs.fonts.put_names.Given as goal

-- the references that are left
abbrev pub invariant-loop-index : goal.invariant-loop-index
invariant-loop-index g l = Left g.K.Sink.state l.fn.text l.text (fonts_text (l.number + 2 * l.index) (drop l.index l.rows)) (fonts_text l.number l.rows)
