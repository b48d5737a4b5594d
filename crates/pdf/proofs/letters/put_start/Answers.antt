use Rattle.pdf.proofs.Contained.{fills_as, ◌next◌}
use Rattle.pdf.proofs.LetterTexts.{piece_begun}
use Rattle.pdf.proofs.letters.put_start.Goals as goal

pub returns : goal.returns
returns g c =
    let font = c.put.ensures.fills next c.put_number.ensures.fills next c.put-2.ensures.fills in
    record { fills = fills_as (c.put_end.ensures.fills next font) (piece_begun c.args.before c.args.row) }
