use Rattle.full_text.proofs.Apart.{items_are_few_lem}
use Rattle.full_text.proofs.laws.items_are_few.Goals as goal

pub returns : goal.returns
returns c = items_are_few_lem c.one_cut.ensures
