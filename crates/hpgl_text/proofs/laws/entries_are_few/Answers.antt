use Rattle.hpgl_text.proofs.EntryCounts.{entries_few}
use Rattle.hpgl_text.proofs.laws.entries_are_few.Goals as goal

pub returns : goal.returns
returns c = entries_few
