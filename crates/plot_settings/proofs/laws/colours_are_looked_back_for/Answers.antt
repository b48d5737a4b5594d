use Rattle.plot_settings.proofs.PenTables.{colours_tell}
use Rattle.plot_settings.proofs.laws.colours_are_looked_back_for.Goals as goal

pub returns : goal.returns
returns c = colours_tell
