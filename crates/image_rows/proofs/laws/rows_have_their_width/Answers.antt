use Rattle.image_rows.proofs.RowLaws.{rows_have_their_width_lem}
use Rattle.image_rows.proofs.laws.rows_have_their_width.Goals as goal

pub returns : goal.returns
returns c = rows_have_their_width_lem
