use Rattle.escapes.proofs.EscapeLaws.{commands_share_their_group_lem}
use Rattle.escapes.proofs.laws.commands_share_their_group.Goals as goal

pub returns : goal.returns
returns c = commands_share_their_group_lem
