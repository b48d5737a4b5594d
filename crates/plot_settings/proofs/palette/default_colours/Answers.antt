use Rattle.std.proofs.Common.{refl}
use Rattle.plot_settings.specs.Colours.{default_colours}
use Rattle.plot_settings.proofs.palette.default_colours.Goals as goal

pub returns : goal.returns
unfolding default_colours
returns c = rw c.copy_from_slice.ensures.after refl
