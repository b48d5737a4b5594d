use Rattle.std.proofs.Common.{◌≡◌, take}
use Rattle.escapes.specs.Commands.{capped}
use Rattle.escapes.proofs.value.integer_of.Given as goal

abbrev pub invariant-loop-digit : goal.invariant-loop-digit
invariant-loop-digit l = l.value ≡ capped (take l.digit-index l.digits)
