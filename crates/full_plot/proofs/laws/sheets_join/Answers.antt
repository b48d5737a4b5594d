use Rattle.full_plot.proofs.Later.{sheets_joined}
use Rattle.full_plot.proofs.laws.sheets_join.Goals as goal

pub returns : goal.returns
returns c = sheets_joined
