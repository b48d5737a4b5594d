use Rattle.std.proofs.Common.{◌+◌, ◌-◌, ◌/◌}
use Rattle.plot_arc.proofs.SineRange.{of_degrees}
use Rattle.plot_arc.proofs.sines.of_quarter.Goals as goal

pub between-requires-clause-from_in : goal.between-requires-clause-from_in
between-requires-clause-from_in c = of_degrees (c.args.t / 1000)

pub between-requires-clause-to_in : goal.between-requires-clause-to_in
between-requires-clause-to_in c = of_degrees (c.args.t / 1000 + 1)

pub between-requires-2-clause-from_in : goal.between-requires-2-clause-from_in
between-requires-2-clause-from_in c = of_degrees (90 - c.args.t / 1000)

pub between-requires-2-clause-to_in : goal.between-requires-2-clause-to_in
between-requires-2-clause-to_in c = of_degrees (89 - c.args.t / 1000)
