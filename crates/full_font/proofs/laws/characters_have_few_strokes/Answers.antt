use Rattle.full_font.proofs.FontLaws.{few}
use Rattle.full_font.proofs.laws.characters_have_few_strokes.Goals as goal

pub returns : goal.returns
returns c = few
