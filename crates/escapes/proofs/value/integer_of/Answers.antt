use Rattle.std.proofs.Common.{arith}
use Rattle.escapes.proofs.Digits.{digits_sum_more}
use Rattle.escapes.proofs.value.integer_of.Goals as goal

pub loop-digit-preserved : goal.loop-digit-preserved
loop-digit-preserved c = omega (
  arith,
  digits_sum_more c.args.digits.now c.loop-digit.digit-index
      (omega arith),
  c.loop-digit.invariant,
)
