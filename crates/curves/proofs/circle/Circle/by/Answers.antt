use Rattle.curves.proofs.VectorLemmas.{cross_above}
use Rattle.curves.proofs.circle.Circle.by.Goals as goal

pub unit_of-requires-2-clause-not_zero : goal.unit_of-requires-2-clause-not_zero
unit_of-requires-2-clause-not_zero c = cross_above c.args.b c.args.c c.requires.apart
