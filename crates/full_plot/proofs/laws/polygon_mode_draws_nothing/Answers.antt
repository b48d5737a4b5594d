use Rattle.full_plot.proofs.Undrawn.{polygon_mode_is_silent}
use Rattle.full_plot.proofs.laws.polygon_mode_draws_nothing.Goals as goal

pub returns : goal.returns
returns c = polygon_mode_is_silent
