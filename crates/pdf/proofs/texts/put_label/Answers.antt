use Rattle.std.proofs.Common.{◌≡◌, ◌++◌, ◌∙◌, [], List, Bool, true, cond, ap, sym}
use Rattle.labels.specs.Labels.{LabelShape, LineShape}
use Rattle.pdf.specs.Contents.{lines_operators}
use Rattle.pdf.specs.Operators.{operators_text}
use Rattle.pdf.proofs.Contained.{fills_as, nothing}
use Rattle.pdf.proofs.OperatorTexts.{of_label}
use Rattle.pdf.proofs.texts.put_label.Goals as goal

pub returns-then-not-is_on : goal.returns-then-not-is_on
returns-then-not-is_on g c =
    record {
      fills = fills_as (nothing c.requires.open)
          (ap (λ (b : Bool). operators_text (cond b (lines_operators c.args.label.now.lines) [] ++ [])) (c.if-not-is_on.ensures {u = tt}));
    }

pub returns : goal.returns
returns g c =
    let lines = c.args.label.now.lines in
    let same : c.deref.result.now ≡ lines = c.deref.ensures.value ∙ ap (λ (l : LabelShape). l.lines) c.label.view_is in
    record {
      fills = fills_as c.put_lines.ensures.fills
          (ap (λ (zs : List LineShape). operators_text (lines_operators zs)) same ∙ sym (of_label true lines)
          ∙ ap (λ (b : Bool). operators_text (cond b (lines_operators lines) [] ++ [])) (c.if-not-is_on.ensures {u = tt}));
    }
