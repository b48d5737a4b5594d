use Rattle.std.proofs.Common.{◌-◌}
use Rattle.pdf.specs.Documents.{names_text}
use Rattle.pieces.proofs.Texts.{Left}
use Rattle.pdf.proofs.fonts.put_glyphs.Given as goal

-- the names that are left
abbrev pub invariant-loop-index : goal.invariant-loop-index
invariant-loop-index g l = Left g.K.Sink.state l.fn.text l.text (names_text (256 - l.index)) (names_text 256)
