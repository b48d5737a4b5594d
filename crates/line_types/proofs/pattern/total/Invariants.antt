use Rattle.std.proofs.Common.{◌≡◌, ◌<◌, ◌^◌, sum, take}
use Rattle.line_types.proofs.pattern.total.Given as goal

abbrev pub invariant-loop-gap : goal.invariant-loop-gap
invariant-loop-gap l = record { is_sum : l.total ≡ sum (take l.gap-index l.gaps); below : l.total < 2 ^ 48 }
