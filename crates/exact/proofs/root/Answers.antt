use Rattle.std.proofs.Common.{arith, refl, rules}
use Rattle.exact.proofs.RootLemmas.{root_is}
use Rattle.exact.proofs.root.Goals as goal

pub returns-in-Ok-clause-value : goal.returns-in-Ok-clause-value
returns-in-Ok-clause-value c =
    root_is c.args.n c.in-Ok.n c.isqrt.result c.from.result (omega arith) (search rules) (search rules) c.isqrt.ensures.square_le c.isqrt.ensures.next_square_gt

pub returns-in-Err-clause-value : goal.returns-in-Err-clause-value
returns-in-Err-clause-value c =
    root_is c.args.n c.args.n c.isqrt-in-Err.result c.isqrt-in-Err.result (omega arith) refl refl c.isqrt-in-Err.ensures.square_le c.isqrt-in-Err.ensures.next_square_gt
