use Rattle.std.proofs.Common.{drop}
use Rattle.pdf.specs.Contents.{lines_operators}
use Rattle.pdf.specs.Operators.{operators_text}
use Rattle.pdf.proofs.Contained.{Remains}
use Rattle.pdf.proofs.texts.put_lines.Given as goal

-- the lines that are left
abbrev pub invariant-loop-line : goal.invariant-loop-line
invariant-loop-line g l =
    Remains g.K.Sink.state l.fn.document l.document l.fn.content l.content (operators_text (lines_operators (drop l.line-index l.lines))) (operators_text (lines_operators l.lines))
