use Rattle.escapes.proofs.EscapeLaws.{escapes_take_bytes_lem}
use Rattle.escapes.proofs.laws.escapes_take_bytes.Goals as goal

pub returns : goal.returns
returns c = escapes_take_bytes_lem
