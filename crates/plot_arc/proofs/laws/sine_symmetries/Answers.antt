use Rattle.plot_arc.proofs.Angles.{symmetries}
use Rattle.plot_arc.proofs.laws.sine_symmetries.Goals as goal

pub returns : goal.returns
returns c = symmetries
