use Rattle.hpgl_plot.proofs.NoteCounts.{notes_few}
use Rattle.hpgl_plot.proofs.laws.notes_are_few.Goals as goal

pub returns : goal.returns
returns c = notes_few
