use Rattle.std.proofs.Common.{drop}
use Rattle.pieces.proofs.Texts.{Left}
use Rattle.svg.specs.Titles.{lines_text, next_lines, text_bytes}
use Rattle.svg.proofs.titles.put_lines.Given as goal

-- the lines that are left
abbrev pub invariant-loop-line : goal.invariant-loop-line
invariant-loop-line g l =
    Left g.K.Sink.state l.fn.text l.text (text_bytes (next_lines (drop l.line-index l.others))) (text_bytes (lines_text l.fn.lines))
