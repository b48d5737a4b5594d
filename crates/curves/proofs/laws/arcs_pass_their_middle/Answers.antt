use Rattle.curves.proofs.Passing.{arcs_pass_lem}
use Rattle.curves.proofs.laws.arcs_pass_their_middle.Goals as goal

pub returns : goal.returns
returns c = arcs_pass_lem
