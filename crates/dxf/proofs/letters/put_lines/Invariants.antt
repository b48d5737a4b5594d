use Rattle.std.proofs.Common.{drop}
use Rattle.pieces.proofs.Texts.{Left}
use Rattle.dxf.specs.Letters.{lines_text}
use Rattle.dxf.proofs.letters.put_lines.Given as goal

-- the lines that are left
abbrev pub invariant-loop-line : goal.invariant-loop-line
invariant-loop-line g l = Left g.K.Sink.state l.fn.text l.text (lines_text l.layers l.stroke (drop l.line-index l.lines)) (lines_text l.layers l.stroke l.lines)
