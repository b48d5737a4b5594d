use Rattle.std.proofs.Common.{◌^◌}
use Rattle.hpgl_plot.proofs.Turned.{vector_right, vector_above}
use Rattle.hpgl_plot.proofs.turn.turned_vector.Goals as goal

pub returns-clause-x_in : goal.returns-clause-x_in
returns-clause-x_in c = rw c.turned.ensures (vector_right c.args.rotation c.args.vector (2 ^ 104) c.requires.x_in c.requires.y_in)

pub returns-clause-y_in : goal.returns-clause-y_in
returns-clause-y_in c = rw c.turned.ensures (vector_above c.args.rotation c.args.vector (2 ^ 104) c.requires.x_in c.requires.y_in)
