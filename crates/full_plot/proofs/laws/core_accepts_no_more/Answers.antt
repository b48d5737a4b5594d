use Rattle.full_plot.proofs.Wider.{accepts_no_more}
use Rattle.full_plot.proofs.laws.core_accepts_no_more.Goals as goal

pub returns : goal.returns
returns c = accepts_no_more
