use Rattle.std.proofs.Common.{None, drop}
use Rattle.pdf.specs.TextSteps.{letters_text}
use Rattle.pdf.proofs.Contained.{Remains}
use Rattle.pdf.proofs.texts.put_letters.Given as goal

-- the letters that are left
abbrev pub invariant-loop-point : goal.invariant-loop-point
invariant-loop-point g l = Remains g.K.Sink.state l.fn.document l.document l.fn.content l.content (letters_text l.row (drop l.point-index l.text)) (letters_text None l.text)
