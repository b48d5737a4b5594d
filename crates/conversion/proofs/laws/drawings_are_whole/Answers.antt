use Rattle.conversion.proofs.WholeDrawings.{of_drawing, of_sheets}
use Rattle.conversion.proofs.laws.drawings_are_whole.Goals as goal

pub returns : goal.returns
returns c =
    λ turn reading carousel choice picture before after drawing sheet drawn.
    of_sheets drawing (of_drawing reading carousel choice picture before after turn drawing drawn) sheet
