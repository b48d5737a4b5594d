use Rattle.full_plot.proofs.Later.{told_as_set}
use Rattle.full_plot.proofs.laws.notes_are_told.Goals as goal

pub returns : goal.returns
returns c = told_as_set
