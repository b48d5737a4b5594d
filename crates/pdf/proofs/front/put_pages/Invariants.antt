use Rattle.std.proofs.Common.{◌+◌, ◌*◌, drop}
use Rattle.pdf.specs.Documents.{kids_text}
use Rattle.pieces.proofs.Texts.{Left}
use Rattle.pdf.proofs.front.put_pages.Given as goal

-- the references that are left
abbrev pub invariant-loop-index : goal.invariant-loop-index
invariant-loop-index g l = Left g.K.Sink.state l.fn.text l.text (kids_text (l.number + 3 * l.index) (drop l.index l.ends)) (kids_text l.number l.ends)
