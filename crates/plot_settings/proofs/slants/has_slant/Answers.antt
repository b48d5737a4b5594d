use Rattle.std.proofs.Common.{◌∙◌, ap}
use Rattle.plot_settings.specs.Slants.{is_slanted}
use Rattle.plot_settings.proofs.Leading.{same_slant}
use Rattle.plot_settings.proofs.slants.has_slant.Goals as goal

pub returns : goal.returns
returns c = c.is_slanted.ensures ∙ ap is_slanted c.leading-list.ensures.values ∙ same_slant c.args.numbers.now
