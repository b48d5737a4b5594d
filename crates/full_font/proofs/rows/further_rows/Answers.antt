use Rattle.std.proofs.Common.{refl}
use Rattle.full_font.specs.Rows.{further}
use Rattle.full_font.proofs.rows.further_rows.Goals as goal

pub returns : goal.returns
unfolding further
returns c = refl
