use Rattle.escapes.proofs.EscapeLaws.{commands_are_in_range_lem}
use Rattle.escapes.proofs.laws.commands_are_in_range.Goals as goal

pub returns : goal.returns
returns c = commands_are_in_range_lem
