use Rattle.plot_arc.proofs.Nearest.{chords_are_rounded}
use Rattle.plot_arc.proofs.laws.chords_are_rounded.Goals as goal

pub returns : goal.returns
returns c = chords_are_rounded
