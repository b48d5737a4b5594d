use Rattle.line_types.proofs.Boxes.{dashes_in}
use Rattle.line_types.proofs.laws.dashes_stay.Goals as goal

pub returns : goal.returns
returns c = dashes_in
