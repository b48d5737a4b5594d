use Rattle.std.proofs.Common.{drop}
use Rattle.labels.specs.Sheets.{all_counted}
use Rattle.pdf.specs.Contents.{labels_operators}
use Rattle.pdf.specs.Operators.{operators_text}
use Rattle.pdf.proofs.Contained.{Remains}
use Rattle.pdf.proofs.texts.put_labels.Given as goal

-- the labels that are left
abbrev pub invariant-loop-label : goal.invariant-loop-label
invariant-loop-label g l =
    let sheet = l.fn.sheet in
    Remains g.K.Sink.state l.fn.document l.document l.fn.content l.content
    (operators_text (labels_operators sheet.pens.now sheet.strokes.now (all_counted sheet.from (all_counted sheet.earlier (drop l.label-index sheet.labels.now)))))
    (operators_text (labels_operators sheet.pens.now sheet.strokes.now (all_counted sheet.from (all_counted sheet.earlier sheet.labels.now))))
