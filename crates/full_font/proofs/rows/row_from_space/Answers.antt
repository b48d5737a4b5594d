use Rattle.std.proofs.Common.{refl}
use Rattle.full_font.specs.Rows.{from_space}
use Rattle.full_font.proofs.Sorted.{lines-get_or}
use Rattle.full_font.proofs.rows.row_from_space.Goals as goal

pub returns : goal.returns
unfolding from_space
returns c = rw lines-get_or refl
