use Rattle.escapes.proofs.EscapeLaws.{commands_are_apart_lem}
use Rattle.escapes.proofs.laws.commands_are_apart.Goals as goal

pub returns : goal.returns
returns c = commands_are_apart_lem
