use Rattle.areas.proofs.Apart.{apart_in}
use Rattle.areas.proofs.walk.ShapeWalk.new.Goals as goal

pub invariant_of-result : goal.invariant_of-result
invariant_of-result c = record { apart = apart_in c.args.of.areas }
