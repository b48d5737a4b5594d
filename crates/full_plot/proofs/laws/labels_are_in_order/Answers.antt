use Rattle.full_plot.proofs.OrderedLabels.{labels_ordered}
use Rattle.full_plot.proofs.laws.labels_are_in_order.Goals as goal

pub returns : goal.returns
returns c = labels_ordered
