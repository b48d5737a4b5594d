use Rattle.escapes.proofs.EscapeLaws.{data_are_as_long_as_said_lem}
use Rattle.escapes.proofs.laws.data_are_as_long_as_said.Goals as goal

pub returns : goal.returns
returns c = data_are_as_long_as_said_lem
