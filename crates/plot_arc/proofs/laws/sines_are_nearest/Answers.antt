use Rattle.plot_arc.proofs.SineLaw.{nearest}
use Rattle.plot_arc.proofs.laws.sines_are_nearest.Goals as goal

pub returns : goal.returns
returns c = nearest
