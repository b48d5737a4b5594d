use Rattle.pdf.proofs.Contained.{fills_as, ◌next◌}
use Rattle.std.proofs.Common.{◌∙◌, ℕ, ap}
use Rattle.pdf.specs.Numbers.{two_digits}
use Rattle.pdf.specs.TextSteps.{row_text}
use Rattle.pdf.proofs.letters.put_letter.Goals as goal

pub returns : goal.returns
returns g c =
    let row = fills_as c.put_row.ensures.fills (ap (λ (k : ℕ). row_text c.args.before k) c.row_of.ensures) in
    let byte = fills_as c.put.ensures.fills (c.two_digits.ensures ∙ ap two_digits c.byte_of.ensures) in
    record { fills = row next byte }
