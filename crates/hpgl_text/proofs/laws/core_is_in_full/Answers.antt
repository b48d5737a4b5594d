use Rattle.hpgl_text.proofs.Alike.{core_is_in_full_lem}
use Rattle.hpgl_text.proofs.laws.core_is_in_full.Goals as goal

pub returns : goal.returns
returns c = core_is_in_full_lem
