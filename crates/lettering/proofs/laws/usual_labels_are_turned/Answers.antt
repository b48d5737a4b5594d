use Rattle.lettering.proofs.Turned.{usual_labels_are_turned_lem}
use Rattle.lettering.proofs.laws.usual_labels_are_turned.Goals as goal

pub returns : goal.returns
returns c = usual_labels_are_turned_lem
