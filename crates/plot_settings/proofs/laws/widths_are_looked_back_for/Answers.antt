use Rattle.plot_settings.proofs.PenTables.{widths_tell}
use Rattle.plot_settings.proofs.laws.widths_are_looked_back_for.Goals as goal

pub returns : goal.returns
returns c = widths_tell
