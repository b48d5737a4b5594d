use Rattle.svg.proofs.PartLaws.{whole_labels}
use Rattle.svg.proofs.laws.labels_in_order_are_whole.Goals as goal

pub returns : goal.returns
returns c = whole_labels 0 c.args.labels.now c.requires
