use Rattle.std.proofs.Common.{◌≡◌, take, false}
use Rattle.std.specs.List.{list_any}
use Rattle.labels.specs.Sheets.{all_counted}
use Rattle.pdf.specs.Texts.{has_text}
use Rattle.pdf.proofs.texts.has_texts.Given as goal

abbrev pub invariant-loop-label : goal.invariant-loop-label
invariant-loop-label l =
    let sheet = l.fn.sheet in
    list_any (has_text sheet.pens.now sheet.strokes.now) (all_counted sheet.from (all_counted sheet.earlier (take l.label-index sheet.labels.now))) ≡ false
