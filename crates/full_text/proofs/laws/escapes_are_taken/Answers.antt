use Rattle.full_text.proofs.Apart.{escapes_are_taken_lem}
use Rattle.full_text.proofs.laws.escapes_are_taken.Goals as goal

pub returns : goal.returns
returns c = escapes_are_taken_lem
