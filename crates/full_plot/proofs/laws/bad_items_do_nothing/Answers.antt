use Rattle.full_plot.proofs.BadItems.{bad_does_nothing}
use Rattle.full_plot.proofs.laws.bad_items_do_nothing.Goals as goal

pub returns : goal.returns
returns c = bad_does_nothing
