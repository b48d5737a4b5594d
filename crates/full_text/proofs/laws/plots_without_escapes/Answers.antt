use Rattle.full_text.proofs.Plain.{without_escapes_lem}
use Rattle.full_text.proofs.laws.plots_without_escapes.Goals as goal

pub returns : goal.returns
returns c = without_escapes_lem c.one_cut.ensures
