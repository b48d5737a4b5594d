use Rattle.std.proofs.Common.{◌∙◌, Bool, ap, sym}
use Rattle.std.proofs.lemmas.List.Folds.{list_any_at}
use Rattle.labels.specs.Labels.{LabelShape}
use Rattle.labels.specs.Sheets.{counted}
use Rattle.pdf.specs.Texts.{has_text}
use Rattle.pdf.proofs.LabelLists.{any_counted}
use Rattle.pdf.proofs.texts.has_texts.Goals as goal

pub returns-then-has_text : goal.returns-then-has_text
returns-then-has_text c =
    let sheet = c.args.sheet.now in
    let test = has_text sheet.pens.now sheet.strokes.now in
    let here : LabelShape → Bool = λ l. test (counted sheet.from (counted sheet.earlier l)) in
    sym (any_counted test sheet.from sheet.earlier sheet.labels.now
    ∙ list_any_at here sheet.labels.now c.loop-label.label-index c.label-item.result c.loop-label-test.true
    (ap here (sym c.label-item.is) ∙ sym (c.if-has_text.ensures {u = tt})))
