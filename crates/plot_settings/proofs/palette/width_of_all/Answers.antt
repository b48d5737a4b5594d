use Rattle.std.proofs.Common.{refl}
use Rattle.plot_settings.specs.Settings.{all_pens}
use Rattle.plot_settings.proofs.palette.width_of_all.Goals as goal

pub returns : goal.returns
unfolding all_pens
returns c = refl
