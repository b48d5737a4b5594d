use Rattle.std.proofs.Common.{◌≡◌, ◌≤◌, ◌++◌, ◌∙◌, ℕ, List, None, ap, length, refl, rules}
use Rattle.labels.specs.Labels.{LineShape}
use Rattle.pdf.specs.Operators.{TextMatrix, operator_text}
use Rattle.pdf.specs.TextSteps.{letters_text}
use Rattle.pdf.specs.Texts.{matrix_of}
use Rattle.pdf.proofs.Contained.{fills_as, ◌next◌}
use Rattle.pdf.proofs.LetterTexts.{line_text, of_text}
use Rattle.pdf.proofs.texts.put_line.Goals as goal

pub returns : goal.returns
returns g c =
    let line = c.args.line.now in
    let matrix = operator_text (TextMatrix (matrix_of line) line.start.x line.start.y) in
    let text = c.deref.result.now in
    let same : text ≡ line.text = c.deref.ensures.value ∙ ap (λ (l : LineShape). l.text) c.line.view_is in
    let letters : 1 ≤ length line.text = search rules in
    record {
      fills = fills_as (c.put_matrix.ensures.fills next c.put_letters.ensures.fills)
          (of_text line (matrix ++ letters_text None text) letters (ap (λ (zs : List ℕ). matrix ++ letters_text None zs) same ∙ line_text line matrix refl));
    }
