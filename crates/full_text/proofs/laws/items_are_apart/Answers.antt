use Rattle.full_text.proofs.Apart.{items_are_apart_lem}
use Rattle.full_text.proofs.laws.items_are_apart.Goals as goal

pub returns : goal.returns
returns c = items_are_apart_lem
