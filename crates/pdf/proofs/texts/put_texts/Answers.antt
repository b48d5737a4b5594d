use Rattle.std.proofs.Common.{◌++◌, ◌∙◌, [], ◌∷◌, Bool, cond, ap, sym}
use Rattle.labels.specs.Sheets.{all_counted}
use Rattle.pdf.specs.Contents.{labels_operators}
use Rattle.pdf.specs.Operators.{BeginText, Invisible, EndText, operators_text}
use Rattle.pdf.proofs.Contained.{fills_as, nothing, ◌next◌}
use Rattle.pdf.proofs.OperatorTexts.{of_texts}
use Rattle.pdf.proofs.texts.put_texts.Goals as goal

pub returns-then-not-has_texts : goal.returns-then-not-has_texts
returns-then-not-has_texts g c =
    let sheet = c.args.sheet.now in
    let os = labels_operators sheet.pens.now sheet.strokes.now (all_counted sheet.from (all_counted sheet.earlier sheet.labels.now)) in
    record {
      fills = fills_as (nothing c.requires.open)
          (ap (λ (b : Bool). operators_text (cond b ((BeginText ∷ Invisible ∷ []) ++ os ++ (EndText ∷ [])) [])) (c.if-not-has_texts.ensures {u = tt}));
    }

pub returns : goal.returns
returns g c =
    let sheet = c.args.sheet.now in
    let os = labels_operators sheet.pens.now sheet.strokes.now (all_counted sheet.from (all_counted sheet.earlier sheet.labels.now)) in
    record {
      fills = fills_as (c.put.ensures.fills next c.put_labels.ensures.fills next c.put-2.ensures.fills)
          (sym (of_texts os) ∙ ap (λ (b : Bool). operators_text (cond b ((BeginText ∷ Invisible ∷ []) ++ os ++ (EndText ∷ [])) [])) (c.if-not-has_texts.ensures {u = tt}));
    }
