use Rattle.full_plot.proofs.CoreNotes.{noted_as_in_core}
use Rattle.full_plot.proofs.laws.core_noted_as_in_core.Goals as goal

pub returns : goal.returns
returns c = noted_as_in_core
