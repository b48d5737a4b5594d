use Rattle.std.proofs.Common.{refl}
use Rattle.full_settings.specs.Widths.{all_percents}
use Rattle.full_settings.proofs.width_table.percent_of_all.Goals as goal

pub returns : goal.returns
unfolding all_percents
returns c = refl
