use Rattle.std.proofs.Common.{◌+◌, ◌∙◌, List, ap, refl, drop, arith}
use Rattle.labels.specs.Labels.{LineShape}
use Rattle.pdf.specs.Contents.{lines_operators}
use Rattle.pdf.specs.Operators.{operators_text}
use Rattle.pdf.proofs.Contents.{next_of}
use Rattle.pdf.proofs.LabelLists.{line_length, lines_left}
use Rattle.pdf.proofs.Contained.{all_remain, next_filled}
use Rattle.pdf.proofs.OperatorTexts.{of_lines}
use Rattle.pdf.proofs.texts.put_lines.Goals as goal

pub loop-line-init : goal.loop-line-init
loop-line-init g c = all_remain c.requires.open refl

pub put_line-requires-clause-letters : goal.put_line-requires-clause-letters
put_line-requires-clause-letters g c =
    let lines = c.args.lines.now in
    let i = c.loop-line.line-index in
    omega (arith, c.requires.letters, lines_left i lines, line_length lines i c.line-item.result c.loop-line-test.true c.line-item.is)

pub loop-line-preserved : goal.loop-line-preserved
loop-line-preserved g c =
    let lines = c.args.lines.now in
    let i = c.loop-line.line-index in
    let line = c.line-item.result in
    next_filled c.loop-line.invariant c.put_line.ensures.fills
    (ap (λ (ls : List LineShape). operators_text (lines_operators ls)) (next_of lines i line c.loop-line-test.true c.line-item.is) ∙ of_lines line (drop (i + 1) lines))
