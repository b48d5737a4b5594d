use Rattle.stick_font.proofs.FontLaws.{printing}
use Rattle.stick_font.proofs.laws.printing_characters_have_strokes.Goals as goal

pub returns : goal.returns
returns c = printing
