use Rattle.image_rows.proofs.RowLaws.{unencoded_is_its_data_lem}
use Rattle.image_rows.proofs.laws.unencoded_is_its_data.Goals as goal

pub returns : goal.returns
returns c = unencoded_is_its_data_lem
