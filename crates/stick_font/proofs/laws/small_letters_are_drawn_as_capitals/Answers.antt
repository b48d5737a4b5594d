use Rattle.stick_font.proofs.FontLaws.{small_as_capital}
use Rattle.stick_font.proofs.laws.small_letters_are_drawn_as_capitals.Goals as goal

pub returns : goal.returns
returns c = small_as_capital
