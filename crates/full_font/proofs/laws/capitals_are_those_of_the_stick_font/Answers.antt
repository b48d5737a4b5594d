use Rattle.full_font.proofs.FontLaws.{capitals_as_before}
use Rattle.full_font.proofs.laws.capitals_are_those_of_the_stick_font.Goals as goal

pub returns : goal.returns
returns c = capitals_as_before
