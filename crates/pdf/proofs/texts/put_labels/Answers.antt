use Rattle.std.proofs.Common.{◌+◌, ◌∙◌, List, ap, refl, drop, arith}
use Rattle.labels.specs.Labels.{LabelShape}
use Rattle.labels.specs.Sheets.{all_counted, counted}
use Rattle.pdf.specs.Contents.{labels_operators}
use Rattle.pdf.specs.Operators.{operators_text}
use Rattle.pdf.proofs.Contents.{next_of}
use Rattle.pdf.proofs.LabelLists.{label_letters, letters_left}
use Rattle.pdf.proofs.Contained.{all_remain, next_filled}
use Rattle.pdf.proofs.OperatorTexts.{of_labels}
use Rattle.pdf.proofs.texts.put_labels.Goals as goal

pub loop-label-init : goal.loop-label-init
loop-label-init g c = all_remain c.requires.open refl

pub put_label-requires-clause-letters : goal.put_label-requires-clause-letters
put_label-requires-clause-letters g c =
    let labels = c.args.sheet.now.labels.now in
    let i = c.loop-label.label-index in
    omega (arith, c.requires.letters, letters_left i labels, label_letters labels i c.label-item.result c.loop-label-test.true c.label-item.is)

pub loop-label-preserved : goal.loop-label-preserved
loop-label-preserved g c =
    let sheet = c.args.sheet.now in
    let labels = sheet.labels.now in
    let i = c.loop-label.label-index in
    let label : LabelShape = c.label-item.result in
    let here = counted sheet.from (counted sheet.earlier label) in
    let rest = all_counted sheet.from (all_counted sheet.earlier (drop (i + 1) labels)) in
    next_filled c.loop-label.invariant c.put_label.ensures.fills
    (ap (λ (ls : List LabelShape). operators_text (labels_operators sheet.pens.now sheet.strokes.now (all_counted sheet.from (all_counted sheet.earlier ls)))) (next_of labels i label c.loop-label-test.true c.label-item.is)
    ∙ of_labels sheet.pens.now sheet.strokes.now here rest)
