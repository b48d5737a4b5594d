use Rattle.image_rows.proofs.RowLaws.{rows_can_be_written_lem}
use Rattle.image_rows.proofs.laws.rows_can_be_written.Goals as goal

pub returns : goal.returns
returns c = rows_can_be_written_lem
