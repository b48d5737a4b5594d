use Rattle.image_rows.proofs.RowLaws.{widths_only_cut_lem}
use Rattle.image_rows.proofs.laws.widths_only_cut.Goals as goal

pub returns : goal.returns
returns c = widths_only_cut_lem
