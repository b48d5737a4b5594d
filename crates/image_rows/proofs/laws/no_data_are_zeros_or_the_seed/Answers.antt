use Rattle.image_rows.proofs.RowLaws.{no_data_are_zeros_or_the_seed_lem}
use Rattle.image_rows.proofs.laws.no_data_are_zeros_or_the_seed.Goals as goal

pub returns : goal.returns
returns c = no_data_are_zeros_or_the_seed_lem
